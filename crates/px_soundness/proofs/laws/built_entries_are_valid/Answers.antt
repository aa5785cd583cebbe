use Rattle.px_soundness.proofs.Entries.{built_valid}
use Rattle.px_soundness.proofs.laws.built_entries_are_valid.Goals as goal

pub returns : goal.returns
returns c = built_valid
