use Rattle.px_syntax.proofs.TypedEquations.{typed-Stop}
use Rattle.px_real_values.proofs.operand.stop.Goals as goal

pub returns : goal.returns
returns c = typed-Stop c.args.word c.args.site c.args.parts
