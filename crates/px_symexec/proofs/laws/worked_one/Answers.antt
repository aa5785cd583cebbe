use Rattle.px_symexec.proofs.WorkedOneLemmas.{worked_one}
use Rattle.px_symexec.proofs.laws.worked_one.Goals as goal

pub returns : goal.returns
returns c = worked_one
