use Rattle.std.proofs.Common.{◌≡◌, ℕ, ◌+◌, ◌<◌, length, get_or}
use Rattle.px_terms.specs.Valuations.{valuation_of, number_of}
use Rattle.px_solver.proofs.model.roots_of.Given as goal

abbrev pub invariant-loop-x : goal.invariant-loop-x
invariant-loop-x l = record {
  so_far : length l.roots.items ≡ l.x + 1;
  zero : get_or l.roots.items 0 0 ≡ 0;
  each : (x : ℕ) → x < l.x → get_or l.roots.items (x + 1) 0 ≡ number_of (valuation_of l.model x);
}
