-- The test of the normal form decides it.
use Rattle.std.proofs.Common.{◌≡◌, ℕ, zero, suc, ◌^◌, ◌<◌, ◌≤◌, List, [], ◌∷◌, length, true, false, ◌&&◌, get_or, refl, arith}
use Rattle.std.specs.Prelude.{nat_lt, nat_le}
use Rattle.std.specs.List.Sorted.{IsNonDecreasing}
use Rattle.std.specs.Ordering.{is_lt}
use Rattle.std.specs.declared.cmp.Ordering.{Ordering}
use Rattle.std.specs.declared.cmp.Ordering.TheVariants.{Less, Equal, Greater}
use Rattle.std.proofs.lemmas.Bool.{and_parts, and_from, ltb-true, lt-ltb, leb-true, le-leb, false_from_ne_true}
use Rattle.std.proofs.lemmas.List.Elements.{All-nil, All-cons, All-head, All-tail}
use Rattle.px_terms.specs.Terms.{Term, key_cmp, Before, HasOrderedVariables, IsNormal}
use Rattle.px_spelling.specs.Polynomials.{none_below, none_falls, stands_before, is_monomial, is_normal}

-- ---- variables

below_is : (x : ℕ) (xs : List ℕ) → none_below x xs ≡ true → (j d : ℕ) → j < length xs → x ≤ get_or xs j d
below_is x [] test j d lt = absurd (omega arith)
below_is x (y ∷ ys) test zero d lt = leb-true x y (and_parts (nat_le x y) (none_below x ys) test).0
below_is x (y ∷ ys) test (suc j) d lt = below_is x ys (and_parts (nat_le x y) (none_below x ys) test).1 j d (omega arith)

falls_is : (xs : List ℕ) → none_falls xs ≡ true → IsNonDecreasing xs
falls_is [] test i j d le lt = absurd (omega arith)
falls_is (x ∷ xs) test zero zero d le lt = omega arith
falls_is (x ∷ xs) test zero (suc j) d le lt = below_is x xs (and_parts (none_below x xs) (none_falls xs) test).0 j d (omega arith)
falls_is (x ∷ xs) test (suc i) zero d le lt = absurd (omega arith)
falls_is (x ∷ xs) test (suc i) (suc j) d le lt = falls_is xs (and_parts (none_below x xs) (none_falls xs) test).1 i j d (omega arith) (omega arith)

is_below : (x : ℕ) (xs : List ℕ) → ((j d : ℕ) → j < length xs → x ≤ get_or xs j d) → none_below x xs ≡ true
is_below x [] all = refl
is_below x (y ∷ ys) all = and_from (nat_le x y) (none_below x ys) (le-leb x y (all 0 0 (omega arith))) (is_below x ys (λ j d lt. all (suc j) d (omega arith)))

is_falls : (xs : List ℕ) → IsNonDecreasing xs → none_falls xs ≡ true
is_falls [] order = refl
is_falls (x ∷ xs) order =
    and_from (none_below x xs) (none_falls xs)
    (is_below x xs (λ j d lt. order 0 (suc j) d (omega arith) (omega arith)))
    (is_falls xs (λ i j d le lt. order (suc i) (suc j) d (omega arith) (omega arith)))

-- ---- terms

less_is : (o : Ordering) → is_lt o ≡ true → o ≡ Less
less_is Less test = refl
less_is Equal test = absurd cc
less_is Greater test = absurd cc

is_less : (o : Ordering) → o ≡ Less → is_lt o ≡ true
is_less Less is = refl
is_less Equal is = absurd cc
is_less Greater is = absurd cc

before_is : (k : List ℕ) (ts : List Term) → stands_before k ts ≡ true → Before k ts
before_is k [] test = tt
before_is k (t ∷ ts) test =
    let parts = and_parts (is_lt (key_cmp k t.vars)) (stands_before k ts) test in
    (less_is (key_cmp k t.vars) parts.0, before_is k ts parts.1)

is_before : (k : List ℕ) (ts : List Term) → Before k ts → stands_before k ts ≡ true
is_before k [] before = refl
is_before k (t ∷ ts) before = and_from (is_lt (key_cmp k t.vars)) (stands_before k ts) (is_less (key_cmp k t.vars) before.0) (is_before k ts before.1)

record Holds (t : Term) : Type 0 where
  some : 0 < t.coefficient
  word : t.coefficient < 2 ^ 32
  variables : HasOrderedVariables t

monomial_is : (t : Term) → is_monomial t ≡ true → Holds t
monomial_is t test =
    let a = and_parts (nat_lt 0 t.coefficient) (nat_lt t.coefficient (2 ^ 32) && (nat_lt 0 (length t.vars) && none_falls t.vars)) test in
    let b = and_parts (nat_lt t.coefficient (2 ^ 32)) (nat_lt 0 (length t.vars) && none_falls t.vars) a.1 in
    let c = and_parts (nat_lt 0 (length t.vars)) (none_falls t.vars) b.1 in
    record { some = ltb-true 0 t.coefficient a.0; word = ltb-true t.coefficient (2 ^ 32) b.0; variables = (ltb-true 0 (length t.vars) c.0, falls_is t.vars c.1) }

is_a_monomial : (t : Term) → 0 < t.coefficient → t.coefficient < 2 ^ 32 → HasOrderedVariables t → is_monomial t ≡ true
is_a_monomial t some word variables =
    and_from (nat_lt 0 t.coefficient) (nat_lt t.coefficient (2 ^ 32) && (nat_lt 0 (length t.vars) && none_falls t.vars)) (lt-ltb 0 t.coefficient some)
    (and_from (nat_lt t.coefficient (2 ^ 32)) (nat_lt 0 (length t.vars) && none_falls t.vars) (lt-ltb t.coefficient (2 ^ 32) word)
    (and_from (nat_lt 0 (length t.vars)) (none_falls t.vars) (lt-ltb 0 (length t.vars) variables.0) (is_falls t.vars variables.1)))

-- ---- lists of terms

pub test_is : (ts : List Term) → is_normal ts ≡ true → IsNormal ts
unfolding is_normal
test_is [] test = record { rising = tt; variables = All-nil HasOrderedVariables }
test_is (t ∷ ts) test =
    let a = and_parts (is_monomial t) (stands_before t.vars ts && is_normal ts) test in
    let b = and_parts (stands_before t.vars ts) (is_normal ts) a.1 in
    let one = monomial_is t a.0 in
    let others = test_is ts b.1 in
    record {
      rising = (one.some, one.word, before_is t.vars ts b.0, others.rising);
      variables = All-cons HasOrderedVariables t ts one.variables others.variables;
    }

pub normal_is : (ts : List Term) → IsNormal ts → is_normal ts ≡ true
unfolding is_normal
normal_is [] normal = refl
normal_is (t ∷ ts) normal =
    and_from (is_monomial t) (stands_before t.vars ts && is_normal ts)
    (is_a_monomial t normal.rising.0 normal.rising.1 (All-head HasOrderedVariables t ts normal.variables))
    (and_from (stands_before t.vars ts) (is_normal ts) (is_before t.vars ts normal.rising.2)
    (normal_is ts (record { rising = normal.rising.3; variables = All-tail HasOrderedVariables t ts normal.variables })))

pub not_normal_is : (ts : List Term) → ¬ IsNormal ts → is_normal ts ≡ false
not_normal_is ts not = false_from_ne_true (is_normal ts) (λ test. not (test_is ts test))
