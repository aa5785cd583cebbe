-- What conjuncts say of two variables.
use Rattle.std.proofs.Common.{◌≡◌, ◌↔◌, ◌⊎◌, inl, inr, ℕ, ◌+◌, ◌-◌, ◌^◌, ◌<◌, List, [], ◌∷◌, ◌++◌, length, get_or, take, refl, sym, ap, subst, ◌∙◌, arith}
use Rattle.std.specs.Prelude.{ℤ, ◌≤ℤ◌, All, Bool, false, Some, flat_map}
use Rattle.std.proofs.lemmas.List.{take_more}
use Rattle.std.proofs.lemmas.List.Elements.{All-nil, All-push, All-pop}
use Rattle.std.proofs.lemmas.Int.{ints}
use Rattle.px_terms.specs.Terms.{Term}
use Rattle.px_terms.specs.Polynomials.{Polynomial}
use Rattle.px_terms.specs.Variables.{variables_of}
use Rattle.px_terms.specs.Rules.{IsDifference, HoldsInIntegers}
use Rattle.px_terms.specs.declared.conjuncts.Conj.{Conj}
use Rattle.px_terms.specs.declared.conjuncts.Conj.TheVariants.{Equal}
use Rattle.px_order.specs.declared.comparisons.Comparison.{Comparison}
use Rattle.px_order.specs.Comparisons.{unit, Holds, IsBelow, ComparesBelow, Adds}
use Rattle.px_order.proofs.Forms.{one_difference}

abbrev compared : ℕ → ℕ → Bool → Comparison
compared x y strict = record { first = x; second = y; strict = strict }

-- ---- no comparison, and two

pub adds_none : (c : Conj) (cs : List Comparison) → ((v : ℕ → ℤ) → HoldsInIntegers v c) → Adds c cs cs
adds_none c cs h = record { same = λ v. (λ a. (a, h v), λ a. a.0); below = λ n a b. b }

module _ {X : Type 0} (P : X → Type 0) where
  pub all_pushed : (xs : List X) (y : X) → All P (xs ++ y ∷ []) ↔ (All P xs × P y)
  all_pushed xs y = (λ h. All-pop P (xs ++ y ∷ []) xs (Some y) refl h, λ (h, k). All-push P xs y h k)

adds_two : (c : Conj) (cs : List Comparison) (k m : Comparison) → ((v : ℕ → ℤ) → (Holds v k × Holds v m) ↔ HoldsInIntegers v c)
    → ((n : ℕ) → ComparesBelow n c → IsBelow n k × IsBelow n m) → Adds c cs ((cs ++ k ∷ []) ++ m ∷ [])
adds_two c cs k m h below = record {
  same = λ v. (
    λ a. let b = (all_pushed (Holds v) (cs ++ k ∷ []) m).0 a in let d = (all_pushed (Holds v) cs k).0 b.0 in (d.0, (h v).0 (d.1, b.1)),
    λ (a, b). let d = (h v).1 b in (all_pushed (Holds v) (cs ++ k ∷ []) m).1 ((all_pushed (Holds v) cs k).1 (a, d.0), d.1),
  );
  below = λ n a b. let d = below n a in (all_pushed (IsBelow n) (cs ++ k ∷ []) m).1 ((all_pushed (IsBelow n) cs k).1 (b, d.0), d.1);
}

-- ---- equalities

module _ (p : Polynomial) (cs : List Comparison) where
  pub equal_none : ((x y : ℕ) → ¬ IsDifference x y p) → Adds (Equal p) cs cs
  equal_none h = adds_none (Equal p) cs (λ v x y d. absurd (h x y d))

  both_ways : (a b : ℤ) → (a ≤ℤ b) × (b ≤ℤ a) → a ≡ b
  both_ways a b (h, k) = omega (arith, ints)

  one_way : (a b : ℤ) → a ≡ b → a ≤ℤ b
  one_way a b e = omega (arith, ints)

  module _ (x y : ℕ) (h : IsDifference x y p) where
    equal_only : (v : ℕ → ℤ) → (Holds v (compared x y false) × Holds v (compared y x false)) ↔ HoldsInIntegers v (Equal p)
    equal_only v = (
      λ o a b d. let (e, f) = one_difference p x y a b h d in ap v (sym e) ∙ both_ways (v x) (v y) o ∙ ap v f,
      λ e. (one_way (v x) (v y) (e x y h), one_way (v y) (v x) (sym (e x y h))),
    )

    below : (n : ℕ) → All (λ z. z < n) (variables_of p) → (x < n) × (y < n)
    below n a = by h.1
      where
        by : ((p.monomials ≡ unit 1 x ∷ unit (2 ^ 32 - 1) y ∷ []) ⊎ (p.monomials ≡ unit (2 ^ 32 - 1) y ∷ unit 1 x ∷ [])) → (x < n) × (y < n)
        by (inl e) = (
            let b : All (λ z. z < n) (x ∷ y ∷ []) = subst (λ ts. All (λ z. z < n) (flat_map (λ (t : Term). t.vars) ts)) e a in
            (b 0 0 (omega arith), b 1 0 (omega arith)))
        by (inr e) = (
            let b : All (λ z. z < n) (y ∷ x ∷ []) = subst (λ ts. All (λ z. z < n) (flat_map (λ (t : Term). t.vars) ts)) e a in
            (b 1 0 (omega arith), b 0 0 (omega arith)))

    pub equal_added : Adds (Equal p) cs ((cs ++ compared x y false ∷ []) ++ compared y x false ∷ [])
    equal_added = adds_two (Equal p) cs (compared x y false) (compared y x false) equal_only
        (λ n a. let b = below n a in ((b.0, b.1), (b.1, b.0)))

-- ---- lists

-- the comparisons say what the conjuncts say of two variables
pub record AreRead (conjuncts : List Conj) (cs : List Comparison) : Type 0 where
  pub same : (v : ℕ → ℤ) → All (Holds v) cs ↔ All (HoldsInIntegers v) conjuncts
  pub below : (n : ℕ) → All (ComparesBelow n) conjuncts → All (IsBelow n) cs

pub read_none : AreRead [] []
read_none = record {
  same = λ v. (λ h. All-nil (HoldsInIntegers v), λ h. All-nil (Holds v));
  below = λ n h. All-nil (IsBelow n);
}

pub read_more : (conjuncts : List Conj) (i : ℕ) (c : Conj) (old new : List Comparison) → i < length conjuncts → c ≡ get_or conjuncts i c
    → Adds c old new → AreRead (take i conjuncts) old → AreRead (take (i + 1) conjuncts) new
read_more conjuncts i c old new l e adds h =
    let f : take (i + 1) conjuncts ≡ take i conjuncts ++ c ∷ [] = take_more conjuncts i c l ∙ ap (λ z. take i conjuncts ++ z ∷ []) (sym e) in
    subst (λ ds. AreRead ds new) (sym f) (record {
      same = λ v. (
        λ a. let b = (adds.same v).0 a in (all_pushed (HoldsInIntegers v) (take i conjuncts) c).1 ((h.same v).0 b.0, b.1),
        λ a. let b = (all_pushed (HoldsInIntegers v) (take i conjuncts) c).0 a in (adds.same v).1 ((h.same v).1 b.0, b.1),
      );
      below = λ n a. let b = (all_pushed (ComparesBelow n) (take i conjuncts) c).0 a in adds.below n b.1 (h.below n b.0);
    })
