-- What assumed conjuncts say under a valuation.
use Rattle.std.proofs.Common.{◌≡◌, ◌≢◌, ℕ, ◌+◌, ◌%◌, ◌^◌, ◌<◌, Bool, true, false, not, nat_eq, ◌||◌, Option, Some, None, List, [], ◌∷◌, ◌++◌, slice_get, refl, sym, ap, ◌∙◌, subst, arith}
use Rattle.std.specs.Prelude.{◌<ℤ◌, ◌≤ℤ◌, ℤ, int_lt, int_le, option_map}
use Rattle.std.specs.List.{list_any}
use Rattle.std.proofs.lemmas.Bool.{and_parts, eqb-true}
use Rattle.std.proofs.lemmas.Bool.Decides.{nat_tests}
use Rattle.px_terms.specs.Words.{signed, IsQuotient}
use Rattle.px_terms.specs.Terms.{Term}
use Rattle.px_terms.specs.Polynomials.{Polynomial, IsPolynomial}
use Rattle.px_terms.specs.Valuations.{Valuation, IsBlock, IsUnwritten, HasType, FitsSort, Fits, numbers_of}
use Rattle.px_terms.specs.Conjuncts.{word_of, place_of, IsTrueUnder}
use Rattle.px_terms.specs.declared.types.Value.{Value}
use Rattle.px_terms.specs.declared.types.Value.TheVariants as value
use Rattle.px_terms.specs.declared.variables.Var.{Var}
use Rattle.px_terms.specs.declared.variables.VarInfo.{VarInfo}
use Rattle.px_terms.specs.declared.variables.Sort.{Sort}
use Rattle.px_terms.specs.declared.variables.Sort.TheVariants as sort
use Rattle.px_terms.specs.declared.conjuncts.Place.{Place}
use Rattle.px_terms.specs.declared.conjuncts.Place.TheVariants as place
use Rattle.px_terms.specs.declared.conjuncts.Conj.{Conj}
use Rattle.px_terms.specs.declared.conjuncts.Conj.TheVariants.{Equal, Unequal, Less, AtMost, SamePlace, OtherPlace, Written, Unwritten, Quotient}
use Rattle.px_entry.specs.Sorts.{is_variable_with, is_some_and, is_made_sort, is_made, is_pointer, is_pointer_place, is_well_sorted, is_long_conjunct}
use Rattle.px_entry.specs.Equality.{same_conjunct}
use Rattle.px_entry.specs.Decided.{is_less, is_at_most, is_same_place, decided, is_true, is_false, is_open, stands_in, assume}
use Rattle.px_entry.specs.Decided as entry
use Rattle.px_entry.proofs.Lists.{Each}
use Rattle.px_entry.proofs.TestLemmas.{tests_decide, var_equal}
use Rattle.px_terms.proofs.Places.{block_is}

-- the relation alone, whatever kinds of values the variables have
abbrev pub Says : Valuation → Conj → Type 0
Says v (Equal p) = word_of v p ≡ 0
Says v (Unequal p) = word_of v p ≢ 0
Says v (Less p q) = signed (word_of v p) <ℤ signed (word_of v q)
Says v (AtMost p q) = signed (word_of v p) ≤ℤ signed (word_of v q)
Says v (SamePlace a b) = place_of v a ≡ place_of v b
Says v (OtherPlace a b) = place_of v a ≢ place_of v b
Says v (Written x) = ¬ IsUnwritten (v x.0)
Says v (Unwritten x) = IsUnwritten (v x.0)
Says v (Quotient x p q) = IsQuotient (numbers_of v x.0 % 2 ^ 32) (word_of v p) (word_of v q)

pub true_says : (v : Valuation) (c : Conj) → IsTrueUnder v c → Says v c
true_says v (Equal p) h = h.1
true_says v (Unequal p) h = h.1
true_says v (Less p q) h = h.2
true_says v (AtMost p q) h = h.2
true_says v (SamePlace a b) h = h.1
true_says v (OtherPlace a b) h = h.1
true_says v (Written x) h = h
true_says v (Unwritten x) h = h
true_says v (Quotient x p q) h = h.3

-- polynomials are in normal form
abbrev pub HasForm : Conj → Type 0
HasForm (Equal p) = IsPolynomial p
HasForm (Unequal p) = IsPolynomial p
HasForm (Less p q) = IsPolynomial p × IsPolynomial q
HasForm (AtMost p q) = IsPolynomial p × IsPolynomial q
HasForm (SamePlace a b) = Unit {0}
HasForm (OtherPlace a b) = Unit {0}
HasForm (Written x) = Unit {0}
HasForm (Unwritten x) = Unit {0}
HasForm (Quotient x p q) = IsPolynomial p × IsPolynomial q

-- ---- variables

pub variable_is : (vars : List VarInfo) (test : VarInfo → Bool) (x : ℕ) → is_variable_with vars test x ≡ true → (i : VarInfo) × (slice_get vars x ≡ Some i) × (test i ≡ true)
variable_is vars test x e = by (slice_get vars x) e
  where
    by : (o : Option VarInfo) → is_some_and o test ≡ true → (i : VarInfo) × (o ≡ Some i) × (test i ≡ true)
    by None e = cc
    by (Some i) e = (i, refl, e)

made_sort : (s : Sort) → is_made_sort s ≡ true → s ≡ sort.Made
made_sort sort.Given e = cc
made_sort sort.Cell e = cc
made_sort sort.Input e = cc
made_sort sort.Made e = refl

pub made_is : (vars : List VarInfo) (x : ℕ) → is_made vars x ≡ true → (i : VarInfo) × (slice_get vars x ≡ Some i) × (i.sort ≡ sort.Made)
made_is vars x e = let (i, at, m) = variable_is vars (λ i. is_made_sort i.sort) x e in (i, at, made_sort i.sort m)

-- a made variable is a block
pub made_block : (vars : List VarInfo) (v : Valuation) (x : ℕ) → Fits vars v → is_made vars x ≡ true → (n : ℕ) × (v x ≡ value.Block n)
made_block vars v x fits e =
    let (i, at, m) = made_is vars x e in
    let h : HasType i.value (v x) × IsBlock (v x) = subst (λ s. FitsSort s i.value (v x)) m (fits.sorts x i at) in block_is (v x) h.1

block_not_null : (u : Value) (n : ℕ) → u ≡ value.Block n → u ≢ value.Null
block_not_null u n e f = let g : value.Block n ≡ value.Null = sym e ∙ f in cc

pub other_is : (x y : ℕ) → nat_eq x y ≡ false → x ≢ y
other_is x y e = grind (arith, nat_tests)

-- ---- decided places

same_places : (vars : List VarInfo) (v : Valuation) (a b : Place) → is_same_place vars a b ≡ Some true → place_of v a ≡ place_of v b
same_places vars v place.Null place.Null e = refl
same_places vars v place.Null (place.Var y) e = absurd (by (is_made vars y.0) e)
  where
    by : (q : Bool) → (elim q as (λ _. Option Bool) [ true ↦ Some false | false ↦ None ]) ≡ Some true → ⊥
    by true e = cc
    by false e = cc
same_places vars v (place.Var x) place.Null e = absurd (by (is_made vars x.0) e)
  where
    by : (q : Bool) → (elim q as (λ _. Option Bool) [ true ↦ Some false | false ↦ None ]) ≡ Some true → ⊥
    by true e = cc
    by false e = cc
same_places vars v (place.Var x) (place.Var y) e = ap (λ (z : Var). v z.0) (var_equal x y (by (nat_eq x.0 y.0) (is_made vars x.0 || is_made vars y.0) e))
  where
    by : (q r : Bool) → (elim q as (λ _. Option Bool) [ true ↦ Some true | false ↦ elim r as (λ _. Option Bool) [ true ↦ Some false | false ↦ None ] ]) ≡ Some true → q ≡ true
    by true r e = refl
    by false true e = cc
    by false false e = cc

module _ (vars : List VarInfo) (v : Valuation) (fits : Fits vars v) where
  made_apart : (x y : ℕ) → x ≢ y → is_made vars x ≡ true → is_pointer vars y ≡ true → v x ≢ v y
  made_apart x y d m p =
      let (i, at, made) = made_is vars x m in
      let (k, at', q) = variable_is vars _ y p in fits.made x y i k at at' made d

  other_places : (a b : Place) → is_pointer_place vars a ≡ true → is_pointer_place vars b ≡ true → is_same_place vars a b ≡ Some false → place_of v a ≢ place_of v b
  other_places place.Null place.Null p q e = cc
  other_places place.Null (place.Var y) p q e = λ same. let (n, b) = made_block vars v y.0 fits (by (is_made vars y.0) e) in block_not_null (v y.0) n b (sym same)
    where
      by : (q : Bool) → (elim q as (λ _. Option Bool) [ true ↦ Some false | false ↦ None ]) ≡ Some false → q ≡ true
      by true e = refl
      by false e = cc
  other_places (place.Var x) place.Null p q e = λ same. let (n, b) = made_block vars v x.0 fits (by (is_made vars x.0) e) in block_not_null (v x.0) n b same
    where
      by : (q : Bool) → (elim q as (λ _. Option Bool) [ true ↦ Some false | false ↦ None ]) ≡ Some false → q ≡ true
      by true e = refl
      by false e = cc
  other_places (place.Var x) (place.Var y) p q e = by (nat_eq x.0 y.0) (is_made vars x.0) (is_made vars y.0) refl refl refl e
    where
      by : (s m n : Bool) → nat_eq x.0 y.0 ≡ s → is_made vars x.0 ≡ m → is_made vars y.0 ≡ n →
          (elim s as (λ _. Option Bool) [ true ↦ Some true | false ↦ elim (m || n) as (λ _. Option Bool) [ true ↦ Some false | false ↦ None ] ]) ≡ Some false → v x.0 ≢ v y.0
      by true m n is a b e = cc
      by false true n is a b e = made_apart x.0 y.0 (other_is x.0 y.0 is) a q
      by false false true is a b e = λ same. made_apart y.0 x.0 (λ eq. other_is x.0 y.0 is (sym eq)) b p (sym same)
      by false false false is a b e = cc

-- ---- decided words

-- the word of a polynomial without variables
pub constant_word : (v : Valuation) (p : Polynomial) (a : ℕ) → IsPolynomial p → entry.word_of p ≡ Some a → word_of v p ≡ a
constant_word v p a form e = by p.constant p.monomials form.constant e
  where
    by : (c : ℕ) (ms : List Term) → c < 2 ^ 32 → entry.word_of (record { constant = c; monomials = ms }) ≡ Some a → word_of v (record { constant = c; monomials = ms }) ≡ a
    by c [] l e = let f : c ≡ a = cc in let g : (c + 0) % 2 ^ 32 ≡ c = omega arith in g ∙ f
    by c (m ∷ ms) l e = absurd (let f : None ≡ Some a = e in cc)

less_from : (a b : ℤ) → int_lt a b ≡ true → a <ℤ b
less_from a b e = grind arith

at_most_from : (a b : ℤ) → int_le a b ≡ true → a ≤ℤ b
at_most_from a b e = grind arith

zero_from : (a : ℕ) → nat_eq a 0 ≡ true → a ≡ 0
zero_from a e = eqb-true a 0 e

module _ (v : Valuation) where
  equal_decided : (p : Polynomial) → IsPolynomial p → is_true (option_map (λ a. nat_eq a 0) (entry.word_of p)) ≡ true → word_of v p ≡ 0
  equal_decided p form e = by (entry.word_of p) refl e
    where
      by : (o : Option ℕ) → entry.word_of p ≡ o → is_true (option_map (λ a. nat_eq a 0) o) ≡ true → word_of v p ≡ 0
      by None is e = cc
      by (Some a) is e = constant_word v p a form is ∙ zero_from a e

  unequal_decided : (p : Polynomial) → IsPolynomial p → is_true (option_map (λ a. not (nat_eq a 0)) (entry.word_of p)) ≡ true → word_of v p ≢ 0
  unequal_decided p form e = by (entry.word_of p) refl e
    where
      zero_is : (a : ℕ) → a ≡ 0 → not (nat_eq a 0) ≡ true → ⊥
      zero_is a is e = let f : not (nat_eq 0 0) ≡ true = subst (λ x. not (nat_eq x 0) ≡ true) is e in cc

      by : (o : Option ℕ) → entry.word_of p ≡ o → is_true (option_map (λ a. not (nat_eq a 0)) o) ≡ true → word_of v p ≢ 0
      by None is e = cc
      by (Some a) is e = λ z. zero_is a (sym (constant_word v p a form is) ∙ z) e

  compared_decided : (test : ℕ → ℕ → Bool) (R : ℕ → ℕ → Type 0) → ((a b : ℕ) → test a b ≡ true → R a b) → (p q : Polynomial) → IsPolynomial p → IsPolynomial q →
      is_true (entry.compared test (entry.word_of p) (entry.word_of q)) ≡ true → R (word_of v p) (word_of v q)
  compared_decided test R from p q f g e = by (entry.word_of p) (entry.word_of q) refl refl e
    where
      by : (o u : Option ℕ) → entry.word_of p ≡ o → entry.word_of q ≡ u → is_true (entry.compared test o u) ≡ true → R (word_of v p) (word_of v q)
      by (Some a) (Some b) is at e = subst (λ x. R x (word_of v q)) (sym (constant_word v p a f is)) (subst (R a) (sym (constant_word v q b g at)) (from a b e))
      by (Some a) None is at e = cc
      by None u is at e = cc

true_some : (o : Option Bool) → is_true o ≡ true → o ≡ Some true
true_some None e = cc
true_some (Some true) e = refl
true_some (Some false) e = cc

not_some : (o : Option Bool) → is_true (option_map not o) ≡ true → o ≡ Some false
not_some None e = cc
not_some (Some true) e = cc
not_some (Some false) e = refl

-- what is decided true is so
pub decided_says : (vars : List VarInfo) (v : Valuation) (c : Conj) → Fits vars v → is_open vars c ≡ true → HasForm c → is_true (decided vars c) ≡ true → Says v c
decided_says vars v (Equal p) fits open' form e = equal_decided v p form e
decided_says vars v (Unequal p) fits open' form e = unequal_decided v p form e
decided_says vars v (Less p q) fits open' form e = compared_decided v is_less (λ a b. signed a <ℤ signed b) (λ a b h. less_from (signed a) (signed b) h) p q form.0 form.1 e
decided_says vars v (AtMost p q) fits open' form e = compared_decided v is_at_most (λ a b. signed a ≤ℤ signed b) (λ a b h. at_most_from (signed a) (signed b) h) p q form.0 form.1 e
decided_says vars v (SamePlace a b) fits open' form e = same_places vars v a b (true_some (is_same_place vars a b) e)
decided_says vars v (OtherPlace a b) fits open' form e =
    let s = (and_parts (is_well_sorted vars (OtherPlace a b)) (not (is_false (decided vars (OtherPlace a b)))) open').0 in
    let w = and_parts (is_pointer_place vars a) (is_pointer_place vars b) s in
    other_places vars v fits a b w.0 w.1 (not_some (is_same_place vars a b) e)
decided_says vars v (Written x) fits open' form e = cc
decided_says vars v (Unwritten x) fits open' form e = cc
decided_says vars v (Quotient x p q) fits open' form e = cc

-- ---- assumed conjuncts

pub stands_says : (v : Valuation) (c : Conj) (pure : List Conj) → Each (IsTrueUnder v) pure → list_any (same_conjunct c) pure ≡ true → Says v c
stands_says v c [] h e = cc
stands_says v c (d ∷ pure) h e = by (stands_says v c pure h.1) (same_conjunct c d) refl e
  where
    by : (list_any (same_conjunct c) pure ≡ true → Says v c) → (q : Bool) → same_conjunct c d ≡ q → (q || list_any (same_conjunct c) pure) ≡ true → Says v c
    by rest true is e = subst (Says v) (sym ((tests_decide.equality c d).0 is)) (true_says v d h.0)
    by rest false is e = rest e

pub each_last : {A : Type 0} (P : A → Type 0) (xs : List A) (x : A) → Each P (xs ++ x ∷ []) → Each P xs × P x
each_last P [] x h = (tt, h.0)
each_last P (y ∷ xs) x h = let k = each_last P xs x h.1 in ((h.0, k.0), k.1)

pub assume_says : (vars : List VarInfo) (pure : List Conj) (c : Conj) (v : Valuation) → (is_true (decided vars c) ≡ true → Says v c) →
    Each (IsTrueUnder v) (assume vars pure c) → Each (IsTrueUnder v) pure × Says v c
assume_says vars pure c v known h = by (is_true (decided vars c)) (stands_in pure c) refl refl h
  where
    by : (d s : Bool) → is_true (decided vars c) ≡ d → stands_in pure c ≡ s → Each (IsTrueUnder v) (elim (d || s) as (λ _. List Conj) [ true ↦ pure | false ↦ pure ++ c ∷ [] ]) →
        Each (IsTrueUnder v) pure × Says v c
    by true s is at h = (h, known is)
    by false true is at h = (h, stands_says v c pure h (and_parts (not (is_long_conjunct c)) (list_any (same_conjunct c) pure) at).1)
    by false false is at h = let k = each_last (IsTrueUnder v) pure c h in (k.0, true_says v c k.1)
