use Rattle.std.proofs.Common.{ℕ, ◌<◌}
use Rattle.px_order.specs.Comparisons.{IsStrictWithin, comparison_at}
use Rattle.px_order.proofs.links.is_some_strict_within.Given as goal

abbrev pub invariant-loop-comparison : goal.invariant-loop-comparison
invariant-loop-comparison l = (k : ℕ) → k < l.comparison-index → ¬ IsStrictWithin l.numbers (comparison_at l.comparisons k)
