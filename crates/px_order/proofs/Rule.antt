-- The rule, by the components of the graph.
use Rattle.std.proofs.Common.{◌≡◌, ◌≢◌, ◌↔◌, inl, inr, ℕ, ◌<◌, ◌≤◌, List, length, get_or, refl, sym, subst, ◌∙◌, arith}
use Rattle.std.specs.Prelude.{ℤ, pos, neg_ℤ, ◌<ℤ◌, ◌≤ℤ◌, All, Bool, true, false}
use Rattle.std.proofs.lemmas.Bool.{cases_Bool}
use Rattle.std.proofs.lemmas.Int.{ints}
use Rattle.std.proofs.lemmas.List.{get_or_default}
use Rattle.px_terms.specs.Rules.{HoldsInIntegers, RulesOut}
use Rattle.px_terms.specs.Conjuncts.{IsWellSorted}
use Rattle.px_terms.specs.declared.variables.VarInfo.{VarInfo}
use Rattle.px_terms.specs.declared.conjuncts.Conj.{Conj}
use Rattle.px_terms.specs.declared.conjuncts.Conj.TheVariants.{Equal, Unequal, Less, AtMost, SamePlace, OtherPlace, Written, Unwritten, Quotient}
use Rattle.px_components.specs.Graphs.{IsEdge, Reaches, stays, steps, AreComponents}
use Rattle.px_order.specs.declared.comparisons.Comparison.{Comparison}
use Rattle.px_order.specs.Comparisons.{IsOrdered, Holds, IsBelow, ComparesBelow, IsCompared, comparison_at, IsStrictWithin}
use Rattle.px_terms.proofs.DomainLemmas.{int_below}

-- ---- variables

compares_below : (vars : List VarInfo) (c : Conj) → IsWellSorted vars c → ComparesBelow (length vars) c
compares_below vars (Equal p) h = λ k d l. int_below vars _ (h k d l)
compares_below vars (Unequal p) h = tt
compares_below vars (Less p q) h = (λ k d l. int_below vars _ (h.0 k d l), λ k d l. int_below vars _ (h.1 k d l))
compares_below vars (AtMost p q) h = (λ k d l. int_below vars _ (h.0 k d l), λ k d l. int_below vars _ (h.1 k d l))
compares_below vars (SamePlace a b) h = tt
compares_below vars (OtherPlace a b) h = tt
compares_below vars (Written x) h = tt
compares_below vars (Unwritten x) h = tt
compares_below vars (Quotient x p q) h = tt

pub all_below : (vars : List VarInfo) (conjuncts : List Conj) → All (IsWellSorted vars) conjuncts → All (ComparesBelow (length vars)) conjuncts
all_below vars conjuncts h = λ k d l. compares_below vars (get_or conjuncts k d) (h k d l)

-- ---- orders of integers

at_most : (strict : Bool) (a b : ℤ) → IsOrdered strict a b → a ≤ℤ b
at_most true a b h = omega (arith, ints)
at_most false a b h = h

less : (strict : Bool) (a b : ℤ) → strict ≡ true → IsOrdered strict a b → a <ℤ b
less true a b e h = h
less false a b e h = absurd cc

follows : (a b c : ℤ) → a ≤ℤ b → b ≤ℤ c → a ≤ℤ c
follows a b c h k = omega (arith, ints)

never : (a b : ℤ) → a <ℤ b → ¬ (b ≤ℤ a)
never a b h k = omega (arith, ints)

falling : (strict : Bool) (m n : ℕ) → n ≤ m → (strict ≡ true → m ≢ n) → IsOrdered strict (neg_ℤ (pos m)) (neg_ℤ (pos n))
falling true m n l d = let e = d refl in let k : n < m = omega arith in omega (arith, ints)
falling false m n l d = omega (arith, ints)

-- ---- the rule

-- the values rise along the graph
rising : (graph : List (List ℕ)) (v : ℕ → ℤ) {x y : ℕ} → ((a b : ℕ) → IsEdge graph a b → v a ≤ℤ v b) → Reaches graph x y → v x ≤ℤ v y
rising graph v {x} h stays = omega (arith, ints)
rising graph v h (steps {x} {y} {z} e r) = follows (v x) (v y) (v z) (h x y e) (rising graph v h r)

module _ (cs : List Comparison) (graph : List (List ℕ)) (numbers : List ℕ) (count : ℕ) (edges : (x y : ℕ) → IsEdge graph x y ↔ IsCompared cs x y)
    (found : AreComponents graph numbers count) where
  by_comparison : (v : ℕ → ℤ) → All (Holds v) cs → (x y : ℕ) → IsCompared cs x y → v x ≤ℤ v y
  by_comparison v h x y (k, l, e, f) =
      let c = comparison_at cs k in
      subst (λ a. v a ≤ℤ v y) e (subst (λ b. v c.first ≤ℤ v b) f (at_most c.strict (v c.first) (v c.second) (h k (record { first = 0; second = 0; strict = false }) l)))

  -- a strict comparison within a component holds of no values
  none_holds : All (IsBelow (length graph)) cs → (k : ℕ) → k < length cs → IsStrictWithin numbers (comparison_at cs k) → (v : ℕ → ℤ) → ¬ All (Holds v) cs
  none_holds below k l (strict, same) v h =
      let c = comparison_at cs k in
      let b = below k (record { first = 0; second = 0; strict = false }) l in
      let r = ((found.same c.first c.second b.0 b.1).0 same).1 in
      never (v c.first) (v c.second) (less c.strict (v c.first) (v c.second) strict (h k (record { first = 0; second = 0; strict = false }) l))
      (rising graph v (λ x y e. by_comparison v h x y ((edges x y).0 e)) r)

  -- the numbers, negated
  abbrev values : ℕ → ℤ
  values x = neg_ℤ (pos (get_or numbers x 0))

  -- where there is none, the negated numbers are a solution
  all_hold : ((k : ℕ) → k < length cs → ¬ IsStrictWithin numbers (comparison_at cs k)) → All (Holds values) cs
  all_hold none = λ k d l. holds (get_or cs k d) k l (get_or_default cs k d (record { first = 0; second = 0; strict = false }) l)
    where
      holds : (c : Comparison) (k : ℕ) → k < length cs → c ≡ comparison_at cs k → Holds values c
      holds c k l e = subst (Holds values) (sym e)
          (let b = comparison_at cs k in
          falling b.strict (get_or numbers b.first 0) (get_or numbers b.second 0)
          (found.falls b.first b.second ((edges b.first b.second).1 (k, l, refl, refl)))
          (λ s f. none k l (s, f)))

module _ (conjuncts : List Conj) (cs : List Comparison) (same : (v : ℕ → ℤ) → All (Holds v) cs ↔ All (HoldsInIntegers v) conjuncts) where
  let_through : (v : ℕ → ℤ) → All (Holds v) cs → ¬ RulesOut 3 conjuncts
  unfolding RulesOut
  let_through v h r = r v ((same v).0 h)

  ruled_out : ((v : ℕ → ℤ) → ¬ All (Holds v) cs) → RulesOut 3 conjuncts
  unfolding RulesOut
  ruled_out h v all = h v ((same v).1 all)

  pub none_compared : length cs ≡ 0 → ¬ RulesOut 3 conjuncts
  none_compared e = let_through (λ x. pos 0) (λ k d l. absurd (omega arith))

  pub decides : (graph : List (List ℕ)) (numbers : List ℕ) (count : ℕ) → ((x y : ℕ) → IsEdge graph x y ↔ IsCompared cs x y) → AreComponents graph numbers count
      → All (IsBelow (length graph)) cs → (answer : Bool) → (answer ≡ true) ↔ ((k : ℕ) × (k < length cs) × IsStrictWithin numbers (comparison_at cs k))
      → (answer ≡ true) ↔ RulesOut 3 conjuncts
  decides graph numbers count edges found below answer h = (
    λ e. let (k, l, s) = h.0 e in ruled_out (none_holds cs graph numbers count edges found below k l s),
    λ r. elim (cases_Bool answer) [
      | inl e ↦ e
      | inr e ↦ absurd (let_through (values cs graph numbers count edges found)
          (all_hold cs graph numbers count edges found (λ k l s. let f = sym e ∙ h.1 (k, l, s) in cc)) r)
    ],
  )
