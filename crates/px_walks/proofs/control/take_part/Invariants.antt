use Rattle.std.proofs.Common.{length}
use Rattle.px_walks.specs.Items.{items_of}
use Rattle.px_walks.specs.Nexts.{JumpsAs}
use Rattle.px_walks.proofs.control.take_part.Given as goal

abbrev pub invariant-loop-piece : goal.invariant-loop-piece
invariant-loop-piece l = JumpsAs (items_of l.fn.control.items) (items_of l.control.items)

abbrev pub decreases-loop-piece : goal.decreases-loop-piece
decreases-loop-piece l = length l.control.items
