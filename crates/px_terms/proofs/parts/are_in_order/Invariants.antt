use Rattle.std.specs.Prelude.{◌≤◌}
use Rattle.std.specs.List.{AllAdjacentBelow}
use Rattle.px_terms.proofs.parts.are_in_order.Given as goal

abbrev pub invariant-loop-i : goal.invariant-loop-i
invariant-loop-i l = AllAdjacentBelow (λ x y. x ≤ y) l.xs l.i
