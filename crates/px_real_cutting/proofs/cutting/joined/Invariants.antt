use Rattle.std.proofs.Common.{List, ◌++◌, length}
use Rattle.px_real_cutting.specs.declared.cutting.Item.{Item}
use Rattle.px_real_cutting.specs.Items.{Items}
use Rattle.px_real_cutting.proofs.cutting.joined.Given as goal

abbrev pub invariant-loop-rest : goal.invariant-loop-rest
invariant-loop-rest l = (is : List Item) → Items l.rest is → Items l.pieces (l.items.items ++ is)

abbrev pub decreases-loop-rest : goal.decreases-loop-rest
decreases-loop-rest l = length l.rest
