use Rattle.std.proofs.Common.{◌≡◌, ℕ, ◌<◌, true, false, length, get_or}
use Rattle.px_solver.specs.Layouts.{mark_at, HasSolved}
use Rattle.px_solver.proofs.solving.solve_all.Given as goal

abbrev pub invariant-loop-home : goal.invariant-loop-home
invariant-loop-home l = record {
  size : length l.roots ≡ length l.fn.roots;
  zero : get_or l.roots 0 0 ≡ 0;
  easy : (v : ℕ) → v < length l.table → mark_at l.layout.hard.items (get_or l.layout.node_homes.items v 0) ≡ false → get_or l.roots v 0 ≡ get_or l.fn.roots v 0;
  solved : (g : ℕ) → 0 < g → g < l.home → mark_at l.layout.hard.items g ≡ true → HasSolved l.table l.conjuncts l.layout g (λ v. get_or l.roots v 0);
}
