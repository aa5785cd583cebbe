use Rattle.px_meaning.specs.CoreCalls.{CoreCalls}
use Rattle.px_meaning.specs.TreeCalls.{TreeCalls}
use Rattle.px_manifest.proofs.ManifestEntries.{looks_right}
use Rattle.px_manifest.proofs.laws.looks_are_right.Goals as goal

pub returns : goal.returns
returns c = record { core = λ P f. looks_right (CoreCalls P f); tree = λ P f. looks_right (TreeCalls P f) }
