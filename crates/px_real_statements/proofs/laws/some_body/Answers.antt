use Rattle.px_real_statements.proofs.Bodies as Bodies
use Rattle.px_real_statements.proofs.laws.some_body.Goals as goal

pub returns : goal.returns
returns c = Bodies.some_body
