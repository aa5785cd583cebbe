-- What is true is open, and may be assumed.
use Rattle.std.proofs.Common.{◌≡◌, ℕ, Bool, true, false, not, nat_eq, ◌&&◌, ◌||◌, Option, Some, None, List, [], ◌∷◌, ◌++◌, refl, arith}
use Rattle.std.specs.Prelude.{ℤ, ◌<ℤ◌, ◌≤ℤ◌, int_lt, int_le, option_map}
use Rattle.std.proofs.lemmas.Bool.{and_parts, and_from, or_right}
use Rattle.px_terms.specs.Words.{signed}
use Rattle.px_terms.specs.Polynomials.{Polynomial}
use Rattle.px_terms.specs.Variables.{variables_of}
use Rattle.px_terms.specs.Valuations.{Valuation, IsWord, IsUnwritten, Fits}
use Rattle.px_terms.specs.Conjuncts.{word_of, HasWords, IsTrueUnder}
use Rattle.px_terms.specs.declared.variables.VarInfo.{VarInfo}
use Rattle.px_terms.specs.declared.conjuncts.Place.{Place as PlaceOf}
use Rattle.px_terms.specs.declared.conjuncts.Place.TheVariants as place
use Rattle.px_terms.specs.declared.conjuncts.Content.TheVariants.{Word, Place}
use Rattle.px_terms.specs.declared.conjuncts.Conj.{Conj}
use Rattle.px_terms.specs.declared.conjuncts.Conj.TheVariants as conjunct
use Rattle.px_entry.specs.Sorts.{is_int, is_pointer_place, is_int_polynomial, is_well_sorted, is_long_conjunct}
use Rattle.px_entry.specs.Decided.{is_less, is_at_most, compared, is_same_place, decided, is_true, is_false, is_open, stands_in, assume}
use Rattle.px_entry.specs.Decided as entry
use Rattle.px_entry.proofs.Lists.{Each, each_all, each_to}
use Rattle.px_soundness.proofs.WellFormed.{UsableWord, Good}
use Rattle.px_soundness.proofs.Truths.{Says, HasForm, true_says, stands_says, decided_says}
use Rattle.px_soundness.proofs.EntryKinds.{word_kind}
use Rattle.px_soundness.proofs.WellTyped.{each_push}
use Rattle.px_entry.specs.declared.entries.Entry.{Entry}
use Rattle.px_entry.specs.declared.entries.Exit.TheVariants.{Ok}
use Rattle.px_entry.specs.Regular.{is_said_written}
use Rattle.px_callgraph.proofs.KeepLemmas.{each_weaker}

-- ---- what is decided false isn't true

not_less : (a b : ℤ) → a <ℤ b → b ≤ℤ a → ⊥
not_less a b l m = grind arith

equal_false : (o : Option ℕ) → is_false (option_map (λ a. nat_eq a 0) o) ≡ true → is_true (option_map (λ a. not (nat_eq a 0)) o) ≡ true
equal_false None e = e
equal_false (Some a) e = e

unequal_false : (o : Option ℕ) → is_false (option_map (λ a. not (nat_eq a 0)) o) ≡ true → is_true (option_map (λ a. nat_eq a 0) o) ≡ true
unequal_false None e = e
unequal_false (Some a) e = by (nat_eq a 0) e
  where
    by : (q : Bool) → not (not q) ≡ true → q ≡ true
    by true e = refl
    by false e = e

less_false : (a b : ℕ) → not (is_less a b) ≡ true → is_at_most b a ≡ true
less_false a b e = by (signed a) (signed b) e
  where
    by : (x y : ℤ) → not (int_lt x y) ≡ true → int_le y x ≡ true
    by x y e = grind arith

at_most_false : (a b : ℕ) → not (is_at_most a b) ≡ true → is_less b a ≡ true
at_most_false a b e = by (signed a) (signed b) e
  where
    by : (x y : ℤ) → not (int_le x y) ≡ true → int_lt y x ≡ true
    by x y e = grind arith

compared_false : (test back : ℕ → ℕ → Bool) → ((a b : ℕ) → not (test a b) ≡ true → back b a ≡ true) → (o u : Option ℕ) → is_false (compared test o u) ≡ true → is_true (compared back u o) ≡ true
compared_false test back f (Some a) (Some b) e = f a b e
compared_false test back f (Some a) None e = cc
compared_false test back f None (Some b) e = cc
compared_false test back f None None e = cc

places_false : (o : Option Bool) → is_false o ≡ true → is_true (option_map not o) ≡ true
places_false None e = e
places_false (Some q) e = e

others_false : (o : Option Bool) → is_false (option_map not o) ≡ true → is_true o ≡ true
others_false None e = e
others_false (Some true) e = refl
others_false (Some false) e = e

-- what is decided true isn't decided false
not_false : (o : Option Bool) → is_true o ≡ true → not (is_false o) ≡ true
not_false None e = cc
not_false (Some true) e = refl
not_false (Some false) e = cc

module _ (vars : List VarInfo) (v : Valuation) (fits : Fits vars v) where
  opened : (c : Conj) → is_well_sorted vars c ≡ true → is_true (decided vars c) ≡ true → is_open vars c ≡ true
  opened c s d = or_right (is_long_conjunct c) (is_well_sorted vars c && not (is_false (decided vars c))) (and_from _ _ s (not_false (decided vars c) d))

  says_contrary : (c : Conj) → is_well_sorted vars c ≡ true → HasForm c → is_true (decided vars c) ≡ true → Says v c
  says_contrary c s form d = decided_says vars v c fits (opened c s d) form d

  swapped : (p q : Polynomial) → (is_int_polynomial vars p && is_int_polynomial vars q) ≡ true → (is_int_polynomial vars q && is_int_polynomial vars p) ≡ true
  swapped p q e = let b = and_parts (is_int_polynomial vars p) (is_int_polynomial vars q) e in and_from _ _ b.1 b.0

  decided_false : (c : Conj) → is_well_sorted vars c ≡ true → HasForm c → is_false (decided vars c) ≡ true → Says v c → ⊥
  decided_false (conjunct.Equal p) s form e says = says_contrary (conjunct.Unequal p) s form (equal_false (entry.word_of p) e) says
  decided_false (conjunct.Unequal p) s form e says = says (says_contrary (conjunct.Equal p) s form (unequal_false (entry.word_of p) e))
  decided_false (conjunct.Less p q) s form e says =
      not_less (signed (word_of v p)) (signed (word_of v q)) says
      (says_contrary (conjunct.AtMost q p) (swapped p q s) (form.1, form.0) (compared_false is_less is_at_most less_false (entry.word_of p) (entry.word_of q) e))
  decided_false (conjunct.AtMost p q) s form e says =
      not_less (signed (word_of v q)) (signed (word_of v p))
      (says_contrary (conjunct.Less q p) (swapped p q s) (form.1, form.0) (compared_false is_at_most is_less at_most_false (entry.word_of p) (entry.word_of q) e)) says
  decided_false (conjunct.SamePlace a b) s form e says = says_contrary (conjunct.OtherPlace a b) s form (places_false (is_same_place vars a b) e) says
  decided_false (conjunct.OtherPlace a b) s form e says = says (says_contrary (conjunct.SamePlace a b) s form (others_false (is_same_place vars a b) e))
  decided_false (conjunct.Written x) s form e says = cc
  decided_false (conjunct.Unwritten x) s form e says = cc
  decided_false (conjunct.Quotient x p q) s form e says = cc

  pub open_true : (c : Conj) → is_well_sorted vars c ≡ true → HasForm c → IsTrueUnder v c → is_open vars c ≡ true
  open_true c s form t = or_right (is_long_conjunct c) (is_well_sorted vars c && not (is_false (decided vars c))) (and_from _ _ s (by (is_false (decided vars c)) refl))
    where
      by : (q : Bool) → is_false (decided vars c) ≡ q → not q ≡ true
      by true e = absurd (decided_false c s form e (true_says v c t))
      by false e = refl

pub assume_true : (vars : List VarInfo) (pure : List Conj) (c : Conj) (v : Valuation) → Each (IsTrueUnder v) pure → IsTrueUnder v c → Each (IsTrueUnder v) (assume vars pure c)
assume_true vars pure c v h t = by (is_true (decided vars c) || stands_in pure c)
  where
    by : (q : Bool) → Each (IsTrueUnder v) (elim q as (λ _. List Conj) [ true ↦ pure | false ↦ pure ++ c ∷ [] ])
    by true = h
    by false = each_push (IsTrueUnder v) pure c h t

-- ---- what contents are used as

-- an entry with these variables and conjuncts
abbrev some_entry : List VarInfo → List Conj → Entry
some_entry vars pure = record { proc = record { 0 = 0 }; trace = []; exit = Ok; result = None; vars = vars; pure = pure; pre = []; post = []; model = [] }

module _ (vars : List VarInfo) (pure : List Conj) (v : Valuation) (fits : Fits vars v) (true_of : Each (IsTrueUnder v) pure) where
  said : (y : ℕ) → is_said_written pure y ≡ true → IsUnwritten (v y) → ⊥
  said y e u = stands_says v (conjunct.Written (record { 0 = y })) pure true_of e u

  -- a word's variables have words
  pub good_words : (p : Polynomial) → Good vars pure (Word p) → HasWords v p
  good_words p g = each_all (λ x. IsWord (v x)) (variables_of p)
      (each_weaker (UsableWord vars pure) (λ x. IsWord (v x)) (λ x u. word_kind (some_entry vars pure) v fits said x u.0 u.1) (variables_of p) g.1)

  pub good_ints : (p : Polynomial) → Good vars pure (Word p) → is_int_polynomial vars p ≡ true
  good_ints p g = each_to (is_int vars) (UsableWord vars pure) (λ x u. u.0) (variables_of p) g.1

  pub good_pointer : (a : PlaceOf) → Good vars pure (Place a) → is_pointer_place vars a ≡ true
  good_pointer place.Null g = refl
  good_pointer (place.Var x) g = g.0
