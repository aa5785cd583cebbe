use Rattle.px_meaning.specs.CoreCalls.{CoreCalls}
use Rattle.px_meaning.specs.TreeCalls.{TreeCalls}
use Rattle.px_manifest.proofs.ManifestEntries.{taken_from_all}
use Rattle.px_manifest.proofs.laws.asking_nothing_is_taken.Goals as goal

pub returns : goal.returns
returns c = record { core = λ P f. taken_from_all (CoreCalls P f); tree = λ P f. taken_from_all (TreeCalls P f) }
