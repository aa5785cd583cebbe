use Rattle.std.proofs.Common.{◌≡◌, ℕ, ◌<◌, List, ◌∷◌, length, get_or}
use Rattle.px_solver.specs.Tables.{AgreeOutside, Works}
use Rattle.px_solver.proofs.search.+search.Given as goal

abbrev pub decreases-search : goal.decreases-search
decreases-search l = length l.members.now

abbrev pub invariant-loop-i : goal.invariant-loop-i
invariant-loop-i l = record {
  so_far : length l.roots ≡ length l.fn.roots;
  others : AgreeOutside l.members (λ v. get_or l.roots v 0) (λ v. get_or l.fn.roots v 0);
  none : (i : ℕ) → i < l.i → (places : List ℕ) → Works l.table l.conjuncts l.indexes l.values (λ v. get_or l.fn.roots v 0) l.members (i ∷ places) → ⊥;
}
