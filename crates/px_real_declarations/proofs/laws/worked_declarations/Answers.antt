use Rattle.px_real_declarations.proofs.Worked as Worked
use Rattle.px_real_declarations.proofs.laws.worked_declarations.Goals as goal

pub returns : goal.returns
returns c = Worked.worked
