-- One conjunct more is held, or the last one no longer.
use Rattle.std.proofs.Common.{◌≡◌, ◌↔◌, ℕ, zero, suc, ◌+◌, ◌-◌, ◌<◌, ◌≤◌, List, [], ◌∷◌, length, refl, sym, ap, subst, ◌∙◌, arith}
use Rattle.std.specs.Prelude.{Option, Some, None, cond}
use Rattle.std.proofs.lemmas.Bool.{eq-eqb, ne_eqb}
use Rattle.px_terms.specs.Rules.{RulesOut}
use Rattle.px_terms.specs.declared.conjuncts.Conj.{Conj}
use Rattle.px_interval.specs.declared.bounds.Bound.{Bound}
use Rattle.px_interval.specs.declared.kept.Kept.{Kept}
use Rattle.px_interval.specs.Bounds.{bound_of}
use Rattle.px_interval.specs.Kept.{without, with_bound, kept_of}
use Rattle.px_interval.specs.Held.{HoldsBeyond}
use Rattle.px_interval.proofs.Bounding.{none_ruled_out, more_ruled_out, none_bounded}

-- ---- what is kept

-- no bound is that of a conjunct with as many before it
none_there : (n : ℕ) (cs : List Conj) → length cs ≤ n → without n (kept_of cs) ≡ kept_of cs
none_there n [] l = refl
none_there n (c ∷ cs) l = by (bound_of c) (none_there n cs (omega arith)) (omega arith)
  where
    by : (o : Option Bound) → without n (kept_of cs) ≡ kept_of cs → length cs < n → without n (with_bound o (length cs) (kept_of cs)) ≡ with_bound o (length cs) (kept_of cs)
    by None e m = e
    by (Some b) e m = ap (λ t. cond t (kept_of cs) (record { bound = b; at = length cs } ∷ kept_of cs)) (ne_eqb (length cs) n (λ f. omega arith))

last_taken : (o : Option Bound) (cs : List Conj) → without (length cs) (with_bound o (length cs) (kept_of cs)) ≡ kept_of cs
last_taken None cs = none_there (length cs) cs (omega arith)
last_taken (Some b) cs = ap (λ t. cond t (kept_of cs) (record { bound = b; at = length cs } ∷ kept_of cs)) (eq-eqb (length cs) (length cs) refl)

-- ---- where some are ruled out

module _ (count : ℕ) (kept : List Kept) where
  pub held_count : (n : ℕ) (cs : List Conj) → HoldsBeyond n count kept cs → n + count ≡ length cs
  held_count zero cs h = let e = h.0 in omega arith
  held_count (suc n) [] h = absurd h
  held_count (suc n) (c ∷ cs) h = let e = held_count n cs h.1 in omega arith

  held_refuted : (n : ℕ) (cs : List Conj) → 0 < n → HoldsBeyond n count kept cs → RulesOut 1 cs
  held_refuted zero cs l h = absurd (omega arith)
  held_refuted (suc n) [] l h = absurd h
  held_refuted (suc n) (c ∷ cs) l h = h.0

  pub held_more : (n : ℕ) (c : Conj) (cs : List Conj) → 0 < n → HoldsBeyond n count kept cs → HoldsBeyond (n + 1) count kept (c ∷ cs)
  held_more n c cs l h = let e : suc n ≡ n + 1 = omega arith in subst (λ k. HoldsBeyond k count kept (c ∷ cs)) e (more_ruled_out c cs (held_refuted n cs l h), h)

-- ---- where none is

all_free : (n count : ℕ) (kept : List Kept) (cs : List Conj) → n ≤ 0 → HoldsBeyond n count kept cs → HoldsBeyond 0 count kept cs
all_free zero count kept cs none h = h
all_free (suc n) count kept cs none h = absurd (omega arith)

free_all : (n count : ℕ) (kept : List Kept) (cs : List Conj) → n ≤ 0 → HoldsBeyond 0 count kept cs → HoldsBeyond n count kept cs
free_all zero count kept cs none h = h
free_all (suc n) count kept cs none h = absurd (omega arith)

module _ (n : ℕ) (none : n ≤ 0) (count : ℕ) (kept : List Kept) where
  -- a conjunct that is no bound
  pub held_unbounded : (c : Conj) (cs : List Conj) → bound_of c ≡ None → HoldsBeyond n count kept cs → HoldsBeyond n (count + 1) kept (c ∷ cs)
  held_unbounded c cs e h =
      let (a, b, free) = all_free n count kept cs none h in
      free_all n (count + 1) kept (c ∷ cs) none (omega arith, b ∙ ap (λ o. with_bound o (length cs) (kept_of cs)) (sym e), none_bounded c cs free e)

  pub held_popped : (c : Conj) (cs : List Conj) → HoldsBeyond n count kept (c ∷ cs) → HoldsBeyond n (count - 1) (without (count - 1) kept) cs
  held_popped c cs h =
      let (a, b, free) = all_free n count kept (c ∷ cs) none h in
      let before : count - 1 ≡ length cs = omega arith in
      free_all n (count - 1) (without (count - 1) kept) cs none
      (before, ap (λ m. without m kept) before ∙ ap (without (length cs)) b ∙ last_taken (bound_of c) cs, λ r. free (more_ruled_out c cs r))

  -- nothing is held exactly where nothing is kept
  pub held_clear : count ≡ 0 → (kept ≡ []) ↔ HoldsBeyond n count kept []
  held_clear e = (λ f. free_all n count kept [] none (e, f, none_ruled_out), λ h. (all_free n count kept [] none h).1)
