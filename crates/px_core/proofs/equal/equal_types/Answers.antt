use Rattle.std.proofs.lemmas.Slice.Eq.{slice_eq-Decides}
use Rattle.px_core.proofs.OperandLemmas.{type_decides}
use Rattle.px_core.proofs.equal.equal_types.Goals as goal

pub returns : goal.returns
returns c = slice_eq-Decides type_decides c.args.left.now c.args.right.now c.eq.result c.eq.ensures
