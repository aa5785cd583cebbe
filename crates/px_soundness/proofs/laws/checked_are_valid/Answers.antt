use Rattle.px_soundness.proofs.Entries.{checked_valid}
use Rattle.px_soundness.proofs.laws.checked_are_valid.Goals as goal

pub returns : goal.returns
returns c = checked_valid
