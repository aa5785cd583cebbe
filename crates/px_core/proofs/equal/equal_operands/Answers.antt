use Rattle.std.proofs.lemmas.Slice.Eq.{slice_eq-Decides}
use Rattle.px_core.proofs.OperandLemmas.{operand_decides}
use Rattle.px_core.proofs.equal.equal_operands.Goals as goal

pub returns : goal.returns
returns c = slice_eq-Decides operand_decides c.args.left.now c.args.right.now c.eq.result c.eq.ensures
