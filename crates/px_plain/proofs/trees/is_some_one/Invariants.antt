use Rattle.std.proofs.Common.{ℕ, ◌<◌}
use Rattle.px_plain.specs.Differences.{difference_at}
use Rattle.px_plain.specs.Trees.{Flat, AreOne}
use Rattle.px_plain.proofs.trees.is_some_one.Given as goal

abbrev pub invariant-loop-j : goal.invariant-loop-j
invariant-loop-j l = (j : ℕ) → j < l.j → (f : Flat l.table) → ¬ AreOne f (difference_at l.differences j)
