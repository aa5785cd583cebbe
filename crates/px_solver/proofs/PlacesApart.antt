-- Places apart change no rule's answer: rules look at no place.
use Rattle.std.proofs.Common.{◌↔◌, inl, inr, ℕ, zero, suc, List, [], ◌∷◌, map}
use Rattle.std.specs.Prelude.{All}
use Rattle.std.proofs.lemmas.List.Elements.{All-nil, All-head, All-tail, All-cons, All-append}
use Rattle.px_terms.specs.Rules.{HoldsModuloTwo, HoldsInIntegers, RulesOut, SomeRulesOut, BoundsVariable}
use Rattle.px_terms.specs.Conjuncts.{IsTrueUnder}
use Rattle.px_terms.proofs.Evaluation.{All-right}
use Rattle.px_terms.specs.declared.types.Value.TheVariants.{Word}
use Rattle.px_terms.specs.declared.conjuncts.Place.{Place}
use Rattle.px_terms.specs.declared.conjuncts.Place.TheVariants as place
use Rattle.px_terms.specs.declared.conjuncts.Conj.{Conj}
use Rattle.px_terms.specs.declared.conjuncts.Conj.TheVariants.{OtherPlace}
use Rattle.px_plain.specs.Held.{HeldItem, OfVar, OfConj, OfApart, held_apart, held_conjuncts, apart_conjuncts, place_of_variable}
use Rattle.px_solver.specs.Pushed.{pushed_conjuncts}

module _ (P : Conj → Type 0) (of_places : (a b : Place) → P (OtherPlace a b)) where
  apart_from : (x : ℕ) (ys : List ℕ) → All P (map (λ y. OtherPlace (place_of_variable x) (place_of_variable y)) ys)
  apart_from x [] = All-nil P
  apart_from x (y ∷ ys) = All-cons P _ _ (of_places (place_of_variable x) (place_of_variable y)) (apart_from x ys)

  all_held : (items : List HeldItem) → All P (pushed_conjuncts items) → All P (held_conjuncts items)
  all_held [] h = h
  all_held (OfVar i ∷ items) h = all_held items h
  all_held (OfConj c ∷ items) h = All-cons P c (held_conjuncts items) (All-head P c (pushed_conjuncts items) h) (all_held items (All-tail P c (pushed_conjuncts items) h))
  all_held (OfApart x ∷ items) h = All-append P (apart_conjuncts x (held_apart items)) (held_conjuncts items)
      (All-cons P _ _ (of_places (place_of_variable x) place.Null) (apart_from x (held_apart items))) (all_held items h)

all_pushed : (P : Conj → Type 0) (items : List HeldItem) → All P (held_conjuncts items) → All P (pushed_conjuncts items)
all_pushed P [] h = h
all_pushed P (OfVar i ∷ items) h = all_pushed P items h
all_pushed P (OfConj c ∷ items) h = All-cons P c (pushed_conjuncts items) (All-head P c (held_conjuncts items) h) (all_pushed P items (All-tail P c (held_conjuncts items) h))
all_pushed P (OfApart x ∷ items) h = all_pushed P items (All-right P (apart_conjuncts x (held_apart items)) (held_conjuncts items) h)

-- what a rule rules out of what domains hold, and of what the stack holds
rule_held : (k : ℕ) (items : List HeldItem) → RulesOut k (pushed_conjuncts items) ↔ RulesOut k (held_conjuncts items)
unfolding RulesOut
rule_held zero items = (λ h. h, λ h. h)
rule_held (suc zero) items = (
  λ h. (h.0, λ z f w. h.1 z f (all_pushed (λ c. BoundsVariable h.0 c → IsTrueUnder (λ y. Word z) c) items w)),
  λ h. (h.0, λ z f w. h.1 z f (all_held (λ c. BoundsVariable h.0 c → IsTrueUnder (λ y. Word z) c) (λ a b k. absurd k) items w)),
)
rule_held (suc (suc zero)) items = (
  λ h v w. h v (all_pushed (HoldsModuloTwo v) items w),
  λ h v w. h v (all_held (HoldsModuloTwo v) (λ a b. tt) items w),
)
rule_held (suc (suc (suc zero))) items = (
  λ h v w. h v (all_pushed (HoldsInIntegers v) items w),
  λ h v w. h v (all_held (HoldsInIntegers v) (λ a b. tt) items w),
)
rule_held (suc (suc (suc (suc k)))) items = (λ h. h, λ h. h)

pub some_rule_held : (kinds : List ℕ) (items : List HeldItem) → SomeRulesOut kinds (pushed_conjuncts items) ↔ SomeRulesOut kinds (held_conjuncts items)
some_rule_held [] items = (λ h. h, λ h. h)
some_rule_held (k ∷ kinds) items = (
  λ h. elim h [ inl r ↦ inl ((rule_held k items).0 r) | inr s ↦ inr ((some_rule_held kinds items).0 s) ],
  λ h. elim h [ inl r ↦ inl ((rule_held k items).1 r) | inr s ↦ inr ((some_rule_held kinds items).1 s) ],
)
