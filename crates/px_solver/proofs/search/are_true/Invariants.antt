use Rattle.std.proofs.Common.{◌≡◌, ℕ, ◌<◌, get_or}
use Rattle.std.specs.Prelude.{Some, slice_get}
use Rattle.px_terms.specs.declared.conjuncts.Conj.{Conj}
use Rattle.px_plain.specs.Ties.{IsTrueOf}
use Rattle.px_solver.specs.Tables.{word_under}
use Rattle.px_solver.proofs.search.are_true.Given as goal

abbrev pub invariant-loop-i : goal.invariant-loop-i
invariant-loop-i l = (i : ℕ) (c : Conj) → i < l.i → slice_get l.conjuncts (get_or l.indexes i 0) ≡ Some c → IsTrueOf (word_under l.table (λ k. get_or l.roots k 0)) c
