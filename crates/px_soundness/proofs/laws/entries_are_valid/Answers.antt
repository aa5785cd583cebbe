use Rattle.px_soundness.proofs.Entries.{entries_valid}
use Rattle.px_soundness.proofs.laws.entries_are_valid.Goals as goal

pub returns : goal.returns
returns c = entries_valid
