use Rattle.px_real_statements.proofs.Bodies as Bodies
use Rattle.px_real_statements.proofs.laws.worked_statements.Goals as goal

pub returns : goal.returns
returns c = Bodies.worked
