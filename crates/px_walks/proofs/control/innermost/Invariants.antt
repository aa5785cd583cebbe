use Rattle.std.proofs.Common.{◌≡◌, ◌≤◌, length, take}
use Rattle.px_core.specs.WellFormedItems.{where_in}
use Rattle.px_walks.specs.Items.{items_of}
use Rattle.px_walks.proofs.control.innermost.Given as goal

-- all pieces from here on are commands
abbrev pub invariant-loop-n : goal.invariant-loop-n
invariant-loop-n l = record {
  within : l.n ≤ length l.control;
  rest : where_in (items_of (take l.n l.control)) ≡ where_in (items_of l.control);
}

abbrev pub decreases-loop-n : goal.decreases-loop-n
decreases-loop-n l = l.n
