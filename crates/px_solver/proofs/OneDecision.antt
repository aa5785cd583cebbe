-- What is decided is one decision.
use Rattle.std.proofs.Common.{◌≡◌, ◌⊎◌, inl, inr, ℕ, List, [], ◌∷◌, refl, ap, subst}
use Rattle.std.specs.Prelude.{All}
use Rattle.std.proofs.lemmas.List.Elements.{All-head, All-tail}
use Rattle.std.specs.Prelude.{ℤ, FitsSigned}
use Rattle.std.specs.Int.{w32}
use Rattle.px_terms.specs.Valuations.{FitsSort}
use Rattle.px_terms.specs.declared.types.Value.{Value}
use Rattle.px_terms.specs.declared.types.Value.TheVariants.{Word}
use Rattle.px_terms.specs.declared.types.ValueType.{ValueType}
use Rattle.px_terms.specs.declared.types.ValueType.TheVariants.{Int, Pointer}
use Rattle.px_terms.specs.declared.variables.Sort.{Sort}
use Rattle.px_terms.specs.declared.variables.Sort.TheVariants.{Given, Cell, Input, Made}
use Rattle.px_terms.specs.declared.variables.VarInfo.{VarInfo}
use Rattle.px_terms.specs.declared.conjuncts.Conj.{Conj}
use Rattle.px_solver.specs.Components.{Selects, IsOfComponent}
use Rattle.px_solver.specs.Decisions.{IsFalseOutright, IsFound, IsUndecided, AreFalseOutright, IsFirstFailure, IsDecided}
use Rattle.px_solver.specs.Laws.{OneDecision, FoundModelsFit}
use Rattle.px_solver.specs.declared.decision.Decision.{Decision}
use Rattle.px_solver.specs.declared.decision.Decision.TheVariants.{Found, Refuted, Undecided}
use Rattle.px_solver.proofs.Once.{Compared, less, same, more, compared, select_once}
use Rattle.px_solver.proofs.Determined.{solved_not_failed, model_once, got, fits_word}

select_none : (P : Conj → Type 0) (cs us : List Conj) → All (λ c. ¬ P c) cs → Selects P cs us → us ≡ []
select_none P [] us n h = h
select_none P (c ∷ cs) us n (inl (p, (vs, e, h))) = absurd (All-head (λ c. ¬ P c) c cs n p)
select_none P (c ∷ cs) us n (inr (p, h)) = select_none P cs us (All-tail (λ c. ¬ P c) c cs n) h

module _ (cs : List Conj) where
  not_outright : {us : List Conj} → All (λ c. ¬ IsFalseOutright cs c) cs → AreFalseOutright cs us → ⊥
  not_outright {us = us} n h = h.some (select_none (IsFalseOutright cs) cs us n h.selects)

  -- of two first failures neither is before the other
  failures_once : (us vs : List Conj) → IsFirstFailure cs us → IsFirstFailure cs vs → us ≡ vs
  failures_once us vs a b = by (compared a.component b.component)
    where
      by : Compared a.component b.component → us ≡ vs
      by (less l) = let s = b.earlier a.component l a.is_hard in absurd (solved_not_failed cs s.0 a.component s.1 a.fails)
      by (same e) = select_once (IsOfComponent cs b.component) cs us vs (subst (λ r. Selects (IsOfComponent cs r) cs us) e a.selects) b.selects
      by (more l) = let s = a.earlier b.component l b.is_hard in absurd (solved_not_failed cs s.0 b.component s.1 b.fails)

  causes_once : (us vs : List Conj) → AreFalseOutright cs us ⊎ IsFirstFailure cs us → AreFalseOutright cs vs ⊎ IsFirstFailure cs vs → us ≡ vs
  causes_once us vs (inl a) (inl b) = select_once (IsFalseOutright cs) cs us vs a.selects b.selects
  causes_once us vs (inl a) (inr b) = absurd (not_outright b.none_false a)
  causes_once us vs (inr a) (inl b) = absurd (not_outright a.none_false b)
  causes_once us vs (inr a) (inr b) = failures_once us vs a b

module _ (vars : List VarInfo) (cs : List Conj) (kinds : List ℕ) where
  found_not_undecided : {A : Type 0} (vs : List Value) (us : List Conj) → IsFound vars cs kinds vs → IsUndecided vars cs kinds us → A
  found_not_undecided vs us f h = by h.cause
    where
      by : {A : Type 0} → AreFalseOutright cs us ⊎ IsFirstFailure cs us → A
      by (inl a) = absurd (not_outright cs f.none_false a)
      by (inr a) = absurd (solved_not_failed cs _ a.component (f.model.searched a.component a.is_hard) a.fails)

  one : (d e : Decision) → IsDecided vars cs kinds d → IsDecided vars cs kinds e → d ≡ e
  one (Found vs) (Found us) h k = ap Found (model_once vars cs vs us h.model k.model h.fits k.fits h.are_true k.are_true)
  one (Found vs) Refuted h k = absurd (h.not_refuted k)
  one (Found vs) (Undecided us) h k = found_not_undecided vs us h k
  one Refuted (Found us) h k = absurd (k.not_refuted h)
  one Refuted Refuted h k = refl
  one Refuted (Undecided us) h k = absurd (k.not_refuted h)
  one (Undecided us) (Found vs) h k = found_not_undecided vs us k h
  one (Undecided us) Refuted h k = absurd (h.not_refuted k)
  one (Undecided us) (Undecided vs) h k = ap Undecided (causes_once cs us vs h.cause k.cause)

pub one_decision : OneDecision
one_decision = record { one = λ vars cs kinds d e h k. one vars cs kinds d e h k }

-- ---- models that are found

word_fits : (s : Sort) (t : ValueType) (z : ℤ) → FitsSort s t (Word z) → FitsSigned w32 z
word_fits s Int z h = fits_word s z h
word_fits Given (Pointer t) z h = absurd h
word_fits Cell (Pointer t) z h = absurd h
word_fits Input (Pointer t) z h = absurd h
word_fits Made (Pointer t) z h = absurd h.0

pub found_models_fit : FoundModelsFit
found_models_fit = record {
  fits = λ vars cs kinds vs h. record { size = h.model.size; fits = h.fits };
  words = λ vars cs kinds vs h x z l e. let i = got vars x l in word_fits i.0.sort i.0.value z (subst (FitsSort i.0.sort i.0.value) e (h.fits.sorts x i.0 i.1));
  are_true = λ vars cs kinds vs h. h.are_true;
}
