-- One conjunct more: the rule asks of the bounds of its variable alone, where it lets the others through.
use Rattle.std.proofs.Common.{◌≡◌, ◌↔◌, inl, inr, ℕ, List, [], ◌∷◌, ◌++◌, refl, sym, ap, subst, ◌∙◌, length, arith}
use Rattle.std.specs.Prelude.{ℤ, Bool, true, false, Option, Some, None, cond, filter, flat_map, nat_eq}
use Rattle.std.proofs.lemmas.Bool.{eq-eqb, cases_eq}
use Rattle.std.proofs.lemmas.List.Elements.{All-nil, All-cons, All-head, All-tail, All-filter}
use Rattle.px_terms.specs.Words.{signed}
use Rattle.px_terms.specs.Conjuncts.{IsTrueUnder}
use Rattle.px_terms.specs.Rules.{BoundsVariable, IsWithinBounds, RulesOut}
use Rattle.px_terms.specs.declared.conjuncts.Conj.{Conj}
use Rattle.px_terms.proofs.WordLaws.{words_are_signed}
use Rattle.px_interval.specs.declared.bounds.Bound.{Bound}
use Rattle.px_interval.specs.declared.gaps.Gap.{Gap}
use Rattle.px_interval.specs.declared.kept.Kept.{Kept}
use Rattle.px_interval.specs.Bounds.{bound_of}
use Rattle.px_interval.specs.Gaps.{gaps_of, gaps_if, conjunct_gaps, variable_of, gaps_on}
use Rattle.px_interval.specs.Kept.{with_bound, kept_of}
use Rattle.px_interval.proofs.Meanings.{at, MeansIf, means}

-- it is a bound on x
abbrev pub is_on : ℕ → Option Bound → Bool
is_on x None = false
is_on x (Some b) = nat_eq b.variable x

-- those that bound x
abbrev pub bounding : ℕ → List Conj → List Conj
bounding x cs = filter (λ c. is_on x (bound_of c)) cs

-- ---- what they leave out

module _ (x : ℕ) (c : Conj) (cs : List Conj) where
  abbrev Others : List Gap
  Others = flat_map conjunct_gaps (bounding x cs)

  first_gaps : (b : Bool) → flat_map conjunct_gaps (cond b (c ∷ bounding x cs) (bounding x cs)) ≡ cond b (conjunct_gaps c ++ Others) Others
  first_gaps true = refl
  first_gaps false = refl

  bound_gaps : (b : Bound) (n : ℕ) → Others ≡ gaps_on x (kept_of cs) → (t : Bool)
      → cond t (gaps_of b ++ Others) Others
      ≡ flat_map (λ (k : Kept). gaps_of k.bound) (cond t (record { bound = b; at = n } ∷ filter (λ (k : Kept). nat_eq (variable_of k) x) (kept_of cs)) (filter (λ (k : Kept). nat_eq (variable_of k) x) (kept_of cs)))
  bound_gaps b n e true = ap (λ gs. gaps_of b ++ gs) e
  bound_gaps b n e false = e

  kept_gaps : (o : Option Bound) (n : ℕ) → Others ≡ gaps_on x (kept_of cs) → cond (is_on x o) (gaps_if o ++ Others) Others ≡ gaps_on x (with_bound o n (kept_of cs))
  kept_gaps None n e = e
  kept_gaps (Some b) n e = bound_gaps b n e (nat_eq b.variable x)

same_gaps : (x : ℕ) (cs : List Conj) → flat_map conjunct_gaps (bounding x cs) ≡ gaps_on x (kept_of cs)
same_gaps x [] = refl
same_gaps x (c ∷ cs) = first_gaps x c cs (is_on x (bound_of c)) ∙ kept_gaps x c cs (bound_of c) (length cs) (same_gaps x cs)

-- what the bound of the first leaves out, and those of the others on its variable
pub gaps_are : (c : Conj) (cs : List Conj) (b : Bound) (kept : List Kept) → bound_of c ≡ Some b → kept ≡ kept_of cs
    → gaps_of b ++ gaps_on b.variable kept ≡ flat_map conjunct_gaps (bounding b.variable (c ∷ cs))
gaps_are c cs b kept e f =
    let on : is_on b.variable (bound_of c) ≡ true = ap (is_on b.variable) e ∙ eq-eqb b.variable b.variable refl in
    ap (λ ks. gaps_of b ++ gaps_on b.variable ks) f
    ∙ ap (λ gs. gaps_of b ++ gs) (sym (same_gaps b.variable cs))
    ∙ ap (λ o. gaps_if o ++ flat_map conjunct_gaps (bounding b.variable cs)) (sym e)
    ∙ ap (λ t. flat_map conjunct_gaps (cond t (c ∷ bounding b.variable cs) (bounding b.variable cs))) (sym on)

-- ---- the rule

-- what is no bound on x doesn't bound it
not_bounded : (x : ℕ) (c : Conj) (o : Option Bound) → MeansIf c o → is_on x o ≡ false → ¬ BoundsVariable x c
not_bounded x c None m e h = m x h
not_bounded x c (Some b) m e h = let f = eq-eqb b.variable x (m.alone x h) in let g = sym e ∙ f in cc

module _ (x : ℕ) (z : ℤ) where
  abbrev IsKept : Conj → Type 0
  IsKept c = BoundsVariable x c → IsTrueUnder (at z) c

  -- the word is within all bounds of x where it is within those of the conjuncts that bound it
  within_all : (cs : List Conj) → IsWithinBounds (bounding x cs) x z → IsWithinBounds cs x z
  within_all [] h = All-nil IsKept
  within_all (c ∷ cs) h = by (within_all cs) (is_on x (bound_of c)) refl h
    where
      by : (IsWithinBounds (bounding x cs) x z → IsWithinBounds cs x z) → (b : Bool) → is_on x (bound_of c) ≡ b → IsWithinBounds (cond b (c ∷ bounding x cs) (bounding x cs)) x z → IsWithinBounds (c ∷ cs) x z
      by more true e k = All-cons IsKept c cs (All-head IsKept c (bounding x cs) k) (more (All-tail IsKept c (bounding x cs) k))
      by more false e k = All-cons IsKept c cs (λ b. absurd (not_bounded x c (bound_of c) (means c) e b)) (more k)

pub none_ruled_out : ¬ RulesOut 1 []
unfolding RulesOut
none_ruled_out (x, none) = none (signed 0) (words_are_signed.signed_fits 0 (omega arith)) (All-nil (IsKept x (signed 0)))

-- a list that is ruled out stays so
pub more_ruled_out : (c : Conj) (cs : List Conj) → RulesOut 1 cs → RulesOut 1 (c ∷ cs)
unfolding RulesOut
more_ruled_out c cs (x, none) = (x, λ z fits h. none z fits (All-tail (IsKept x z) c cs h))

module _ (c : Conj) (cs : List Conj) (free : ¬ RulesOut 1 cs) where
  -- a conjunct that bounds nothing changes nothing
  pub none_bounded : bound_of c ≡ None → ¬ RulesOut 1 (c ∷ cs)
  unfolding RulesOut
  none_bounded e (x, none) = free (x, λ z fits h. none z fits (All-cons (IsKept x z) c cs (λ b. absurd (subst (MeansIf c) e (means c) x b)) h))

  pub one_bounded : (b : Bound) → bound_of c ≡ Some b → RulesOut 1 (bounding b.variable (c ∷ cs)) ↔ RulesOut 1 (c ∷ cs)
  unfolding RulesOut
  one_bounded b e = (
    λ (x, none). (x, λ z fits h. none z fits (All-filter (λ d. is_on b.variable (bound_of d)) (IsKept x z) (c ∷ cs) h)),
    λ (x, none). elim (cases_eq b.variable x) [
      | inl f ↦ (x, λ z fits h. none z fits (within_all x z (c ∷ cs) (subst (λ y. IsWithinBounds (bounding y (c ∷ cs)) x z) f h)))
      | inr d ↦ absurd (free (x, λ z fits h. none z fits (All-cons (IsKept x z) c cs (λ k. absurd (d ((subst (MeansIf c) e (means c)).alone x k))) h)))
    ],
  )

-- by the gaps of the bounds on its variable
pub decided : (c : Conj) (cs : List Conj) (b : Bound) (kept : List Kept) (gaps : List Gap) (answer : Bool)
    → bound_of c ≡ Some b → kept ≡ kept_of cs → gaps ≡ gaps_of b ++ gaps_on b.variable kept
    → ((ds : List Conj) → gaps ≡ flat_map conjunct_gaps ds → (answer ≡ true) ↔ RulesOut 1 ds) → ¬ RulesOut 1 cs → (answer ≡ true) ↔ RulesOut 1 (c ∷ cs)
decided c cs b kept gaps answer e f g h free =
    let same = h (bounding b.variable (c ∷ cs)) (g ∙ gaps_are c cs b kept e f) in
    let out = one_bounded c cs free b e in
    (λ y. out.0 (same.0 y), λ r. same.1 (out.1 r))
