-- Marks of variables that are said to be unwritten.
use Rattle.std.proofs.Common.{◌≡◌, ◌⊎◌, inl, inr, ℕ, ◌+◌, ◌<◌, ◌++◌, List, length, get_or, map, sym, subst, arith}
use Rattle.std.specs.Prelude.{Bool, Some, Any, Contains, slice_get, flat_map}
use Rattle.std.proofs.lemmas.Bool.{cases_lt}
use Rattle.std.proofs.lemmas.List.Elements.{All-contains_itself, Contains-append_left, Contains-append_right}
use Rattle.px_terms.specs.Terms.{Term}
use Rattle.px_terms.specs.Monomials.{term_of}
use Rattle.px_terms.specs.declared.monomial.Monomial.{Monomial}
use Rattle.px_terms.specs.declared.conjuncts.Conj.{Conj}
use Rattle.px_terms.proofs.Evaluation.{variables_at}
use Rattle.px_plain.specs.Ties.{SaysUnwritten}
use Rattle.px_plain.proofs.LeastWords.{any_of}
use Rattle.px_solver.specs.Tables.{IsMarked, MarksSaid}
use Rattle.px_solver.proofs.Lists.{read_conjunct}

-- ---- some variable of terms

pub any_term : (P : ℕ → Type 0) (ms : List (Monomial 4)) (i : ℕ) (m : Monomial 4) (ts : List Term) → i < length ms → m ≡ get_or ms i m → map term_of ms ≡ ts
    → Any P (term_of m).vars → Any P (flat_map (λ t. t.vars) ts)
any_term P ms i m ts l e f (k, x, b, q, p) =
    let all = variables_at (Contains (flat_map (λ (t : Term). t.vars) ts)) ms i m ts l e f (All-contains_itself (flat_map (λ (t : Term). t.vars) ts)) in
    any_of P (flat_map (λ (t : Term). t.vars) ts) x (subst (Contains (flat_map (λ (t : Term). t.vars) ts)) q (all k x b)) p

pub any_right : (P : ℕ → Type 0) (xs ys : List ℕ) → Any P ys → Any P (xs ++ ys)
any_right P xs ys (k, x, l, e, p) = any_of P (xs ++ ys) x (Contains-append_right xs ys x (k, l, e)) p

pub any_left : (P : ℕ → Type 0) (xs ys : List ℕ) → Any P xs → Any P (xs ++ ys)
any_left P xs ys (k, x, l, e, p) = any_of P (xs ++ ys) x (Contains-append_left xs ys x (k, l, e)) p

-- ---- one conjunct more

pub marks_more : (cs : List Conj) (i : ℕ) (c : Conj) (old new : List Bool) → i < length cs → c ≡ get_or cs i c → MarksSaid cs i old →
    ((x : ℕ) → SaysUnwritten x c → IsMarked new x) → ((x : ℕ) → IsMarked old x → IsMarked new x) → ((x : ℕ) → IsMarked new x → IsMarked old x ⊎ SaysUnwritten x c) → MarksSaid cs (i + 1) new
marks_more cs i c old new l e m said kept only = record {
  marked = λ x h. elim (only x h) [ inl o ↦ m.marked x o | inr s ↦ (i, c, l, sym e, s) ];
  all = λ j x d b q s. elim (cases_lt j i) [
    | inl w ↦ kept x (m.all j x d w q s)
    | inr w ↦
        let same : j ≡ i = omega arith in
        said x (subst (SaysUnwritten x) (sym (read_conjunct cs i c d e (subst (λ k. slice_get cs k ≡ Some d) same q))) s)
  ];
}
