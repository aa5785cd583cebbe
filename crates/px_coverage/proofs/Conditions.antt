-- What the machine makes of values, a path makes of the contents that they are.
use Rattle.std.proofs.Common.{◌≡◌, true, ◌&&◌, Option, Some, List, pos, refl, sym, ap, ◌∙◌, subst, subst₂, inl, inr, arith}
use Rattle.std.specs.Prelude.{ℤ}
use Rattle.std.proofs.lemmas.Bool.{and_from}
use Rattle.std.proofs.lemmas.Option.{same_Some}
use Rattle.px_terms.specs.Words.{signed}
use Rattle.px_terms.specs.Polynomials.{Polynomial, sum_of, difference_of, product_of}
use Rattle.px_terms.specs.Valuations.{Valuation, IsPlace, Fits}
use Rattle.px_terms.specs.Conjuncts.{word_of, place_of, IsTrueUnder}
use Rattle.px_terms.specs.declared.types.Value.{Value}
use Rattle.px_terms.specs.declared.types.Value.TheVariants as value
use Rattle.px_terms.specs.declared.types.ValueType.TheVariants.{Int}
use Rattle.px_terms.specs.declared.variables.Var.{Var}
use Rattle.px_terms.specs.declared.variables.VarInfo.{VarInfo}
use Rattle.px_terms.specs.declared.conjuncts.Place.{Place as PlaceOf}
use Rattle.px_terms.specs.declared.conjuncts.Content.{Content}
use Rattle.px_terms.specs.declared.conjuncts.Content.TheVariants.{Unwritten, Word, Place, Cell}
use Rattle.px_terms.specs.declared.conjuncts.Conj.{Conj}
use Rattle.px_terms.specs.declared.conjuncts.Conj.TheVariants as conjunct
use Rattle.px_terms.proofs.TermWords.{zero_difference}
use Rattle.px_core.specs.declared.command.Operator.{Operator}
use Rattle.px_core.specs.declared.command.Operator.TheVariants.{Copy, Neg, Add, Sub, Mul}
use Rattle.px_core.specs.declared.command.Comparison.{Comparison}
use Rattle.px_core.specs.declared.command.Comparison.TheVariants.{Equal, Unequal, Less, AtMost, SamePlace, OtherPlace}
use Rattle.px_entry.specs.Sorts.{is_int_polynomial, is_well_sorted}
use Rattle.px_entry.specs.Contents.{fits_cell}
use Rattle.px_entry.specs.Standing.{content_value}
use Rattle.px_entry.proofs.Lists.{Each}
use Rattle.px_callgraph.specs.States.{number}
use Rattle.px_callgraph.specs.Operations.{of_words, operation, condition, contrary}
use Rattle.px_meaning.specs.Operations.{on_words, quotient, result_of, WordsAre, PointersAre, Holds, Fails}
use Rattle.px_soundness.proofs.WellFormed.{Good}
use Rattle.px_soundness.proofs.AtomHeaps.{absent}
use Rattle.px_soundness.proofs.Contents.{number_good, good_place}
use Rattle.px_soundness.proofs.WellTypedSteps.{sum_good, difference_good, product_good}
use Rattle.px_coverage.proofs.Opens.{good_words, good_ints, good_pointer}
use Rattle.px_coverage.proofs.Regards.{IsOutcome}

-- no unread cell
abbrev pub IsCalm : Content → Type 0
IsCalm c = (x : Var) → c ≡ Cell x → ⊥

-- a content that isn't an unread cell: nothing, a word or a place
pub data Kind (v : Valuation) (c : Content) : Type 0 where
  nothing : c ≡ Unwritten → Kind v c
  a_word : (p : Polynomial) → c ≡ Word p → Kind v c
  a_place : (a : PlaceOf) → c ≡ Place a → IsPlace (place_of v a) → Kind v c

pub kind_of : (vars : List VarInfo) (pure : List Conj) (v : Valuation) (c : Content) → Fits vars v → Each (IsTrueUnder v) pure → Good vars pure c → IsCalm c → Kind v c
kind_of vars pure v Unwritten fits t g calm = nothing refl
kind_of vars pure v (Word p) fits t g calm = a_word p refl
kind_of vars pure v (Place a) fits t g calm = a_place a refl (good_place vars pure v a fits t g)
kind_of vars pure v (Cell x) fits t g calm = absurd (calm x refl)

-- ---- operators

-- an operator on words has no place first
no_sum_place : (op : Operator) (u w : Value) (r : Value) → (op ≡ Copy → ⊥) → IsPlace u → result_of op u w ≡ Some r → ⊥
no_sum_place Copy u w r other p e = other refl
no_sum_place Neg value.Null w r other p e = absent e
no_sum_place Neg (value.Block n) w r other p e = absent e
no_sum_place Neg (value.Word z) w r other p e = p
no_sum_place Neg value.Unwritten w r other p e = p
no_sum_place Add value.Null w r other p e = absent e
no_sum_place Add (value.Block n) w r other p e = absent e
no_sum_place Add (value.Word z) w r other p e = p
no_sum_place Add value.Unwritten w r other p e = p
no_sum_place Sub value.Null w r other p e = absent e
no_sum_place Sub (value.Block n) w r other p e = absent e
no_sum_place Sub (value.Word z) w r other p e = p
no_sum_place Sub value.Unwritten w r other p e = p
no_sum_place Mul value.Null w r other p e = absent e
no_sum_place Mul (value.Block n) w r other p e = absent e
no_sum_place Mul (value.Word z) w r other p e = p
no_sum_place Mul value.Unwritten w r other p e = p

-- with a word first, the other is a word
no_word_place : (op : Operator) (z : ℤ) (w r : Value) → (op ≡ Copy → ⊥) → (op ≡ Neg → ⊥) → IsPlace w → result_of op (value.Word z) w ≡ Some r → ⊥
no_word_place Copy z w r c n p e = c refl
no_word_place Neg z w r c n p e = n refl
no_word_place Add z value.Null r c n p e = absent e
no_word_place Add z (value.Block b) r c n p e = absent e
no_word_place Add z (value.Word y) r c n p e = p
no_word_place Add z value.Unwritten r c n p e = p
no_word_place Sub z value.Null r c n p e = absent e
no_word_place Sub z (value.Block b) r c n p e = absent e
no_word_place Sub z (value.Word y) r c n p e = p
no_word_place Sub z value.Unwritten r c n p e = p
no_word_place Mul z value.Null r c n p e = absent e
no_word_place Mul z (value.Block b) r c n p e = absent e
no_word_place Mul z (value.Word y) r c n p e = p
no_word_place Mul z value.Unwritten r c n p e = p

module _ (vars : List VarInfo) (pure : List Conj) (v : Valuation) (fits : Fits vars v) (true_of : Each (IsTrueUnder v) pure) where
  abbrev V : Content → Value
  V = content_value v

  abbrev K : Content → Type 0
  K = Kind v

  two : (f : Polynomial → Polynomial → Polynomial) (a b c : Content) → of_words (λ p q. Word (f p q)) a b ≡ Some c → (p : Polynomial) × (q : Polynomial) × (a ≡ Word p) × (b ≡ Word q) × (Word (f p q) ≡ c)
  two f (Word p) (Word q) c e = (p, q, refl, refl, same_Some _ _ e)
  two f (Word p) Unwritten c e = absent e
  two f (Word p) (Place b) c e = absent e
  two f (Word p) (Cell y) c e = absent e
  two f Unwritten b c e = absent e
  two f (Place a) b c e = absent e
  two f (Cell x) b c e = absent e

  -- where the machine has a result, there is a content
  pub operation_there : (op : Operator) (a b : Content) (r : Value) → K a → K b → result_of op (V a) (V b) ≡ Some r → (c : Content) × (operation op a b ≡ Some c)
  operation_there Copy a b r ka kb e = (a, refl)
  operation_there Neg a b r (nothing is) kb e = absent (subst (λ z. result_of Neg (V z) (V b) ≡ Some r) is e)
  operation_there Neg a b r (a_word p is) kb e = (_, ap (λ z. operation Neg z b) is)
  operation_there Neg a b r (a_place q is pl) kb e = absurd (no_sum_place Neg (place_of v q) (V b) r (λ f. cc) pl (subst (λ z. result_of Neg (V z) (V b) ≡ Some r) is e))
  operation_there op a b r (nothing is) kb e = by op (subst (λ z. result_of op (V z) (V b) ≡ Some r) is e)
    where
      by : (op : Operator) → result_of op value.Unwritten (V b) ≡ Some r → (c : Content) × (operation op a b ≡ Some c)
      by Copy e = (a, refl)
      by Neg e = absent e
      by Add e = absent e
      by Sub e = absent e
      by Mul e = absent e
  operation_there op a b r (a_place q is pl) kb e = by op (subst (λ z. result_of op (V z) (V b) ≡ Some r) is e)
    where
      by : (op : Operator) → result_of op (place_of v q) (V b) ≡ Some r → (c : Content) × (operation op a b ≡ Some c)
      by Copy e = (a, refl)
      by Neg e = absurd (no_sum_place Neg (place_of v q) (V b) r (λ f. cc) pl e)
      by Add e = absurd (no_sum_place Add (place_of v q) (V b) r (λ f. cc) pl e)
      by Sub e = absurd (no_sum_place Sub (place_of v q) (V b) r (λ f. cc) pl e)
      by Mul e = absurd (no_sum_place Mul (place_of v q) (V b) r (λ f. cc) pl e)
  operation_there op a b r (a_word p is) (nothing at) e = by op (subst₂ (λ z y. result_of op (V z) (V y) ≡ Some r) is at e)
    where
      by : (op : Operator) → result_of op (V (Word p)) value.Unwritten ≡ Some r → (c : Content) × (operation op a b ≡ Some c)
      by Copy e = (a, refl)
      by Neg e = (_, ap (λ z. operation Neg z b) is)
      by Add e = absent e
      by Sub e = absent e
      by Mul e = absent e
  operation_there op a b r (a_word p is) (a_place q at pl) e = by op (subst₂ (λ z y. result_of op (V z) (V y) ≡ Some r) is at e)
    where
      by : (op : Operator) → result_of op (V (Word p)) (place_of v q) ≡ Some r → (c : Content) × (operation op a b ≡ Some c)
      by Copy e = (a, refl)
      by Neg e = (_, ap (λ z. operation Neg z b) is)
      by Add e = absurd (no_word_place Add _ (place_of v q) r (λ f. cc) (λ f. cc) pl e)
      by Sub e = absurd (no_word_place Sub _ (place_of v q) r (λ f. cc) (λ f. cc) pl e)
      by Mul e = absurd (no_word_place Mul _ (place_of v q) r (λ f. cc) (λ f. cc) pl e)
  operation_there Add a b r (a_word p is) (a_word q at) e = (_, ap (λ z. operation Add z b) is ∙ ap (operation Add (Word p)) at)
  operation_there Sub a b r (a_word p is) (a_word q at) e = (_, ap (λ z. operation Sub z b) is ∙ ap (operation Sub (Word p)) at)
  operation_there Mul a b r (a_word p is) (a_word q at) e = (_, ap (λ z. operation Mul z b) is ∙ ap (operation Mul (Word p)) at)

  -- ---- divisions

  no_place_divided : (u w : Value) (r : Option Value) → IsPlace u → on_words quotient u w ≡ Some r → ⊥
  no_place_divided value.Null w r p e = absent e
  no_place_divided (value.Block n) w r p e = absent e
  no_place_divided (value.Word z) w r p e = p
  no_place_divided value.Unwritten w r p e = p

  by_no_place : (z : ℤ) (w : Value) (r : Option Value) → IsPlace w → on_words quotient (value.Word z) w ≡ Some r → ⊥
  by_no_place z value.Null r p e = absent e
  by_no_place z (value.Block n) r p e = absent e
  by_no_place z (value.Word y) r p e = p
  by_no_place z value.Unwritten r p e = p

  -- what the machine divides are words
  pub quotient_there : (a b : Content) (r : Option Value) → K a → K b → on_words quotient (V a) (V b) ≡ Some r →
      (p : Polynomial) × (q : Polynomial) × (a ≡ Word p) × (b ≡ Word q) × (quotient (signed (word_of v p)) (signed (word_of v q)) ≡ r)
  quotient_there a b r (nothing is) kb e = absent (subst (λ z. on_words quotient (V z) (V b) ≡ Some r) is e)
  quotient_there a b r (a_place p is pl) kb e = absurd (no_place_divided (place_of v p) (V b) r pl (subst (λ z. on_words quotient (V z) (V b) ≡ Some r) is e))
  quotient_there a b r (a_word p is) (nothing at) e = absent (subst₂ (λ z y. on_words quotient (V z) (V y) ≡ Some r) is at e)
  quotient_there a b r (a_word p is) (a_place q at pl) e = absurd (by_no_place _ (place_of v q) r pl (subst₂ (λ z y. on_words quotient (V z) (V y) ≡ Some r) is at e))
  quotient_there a b r (a_word p is) (a_word q at) e = (p, q, is, at, same_Some _ _ (subst₂ (λ z y. on_words quotient (V z) (V y) ≡ Some r) is at e))

  -- ---- comparisons

  -- both are words, or both places
  pub data Pair (a b : Content) : Type 0 where
    words : (p q : Polynomial) → a ≡ Word p → b ≡ Word q → Pair a b
    places : (p q : PlaceOf) → a ≡ Place p → b ≡ Place q → IsPlace (place_of v p) → IsPlace (place_of v q) → Pair a b

  words_only : (how : Comparison) (z : ℤ) (w : Value) → IsPlace w → Holds how (value.Word z) w → ⊥
  words_only how z value.Null p h = h
  words_only how z (value.Block n) p h = h
  words_only how z (value.Word y) p h = p
  words_only how z value.Unwritten p h = h

  places_only : (how : Comparison) (u : Value) (z : ℤ) → IsPlace u → Holds how u (value.Word z) → ⊥
  places_only how value.Null z p h = h
  places_only how (value.Block n) z p h = h
  places_only how (value.Word y) z p h = p
  places_only how value.Unwritten z p h = h

  nothing_first : (how : Comparison) (w : Value) → Holds how value.Unwritten w → ⊥
  nothing_first how (value.Word z) h = h
  nothing_first how value.Null h = h
  nothing_first how (value.Block n) h = h
  nothing_first how value.Unwritten h = h

  nothing_second : (how : Comparison) (u : Value) → Holds how u value.Unwritten → ⊥
  nothing_second how (value.Word z) h = h
  nothing_second how value.Null h = h
  nothing_second how (value.Block n) h = h
  nothing_second how value.Unwritten h = h

  pointers : (how : Comparison) (u w : Value) → IsPlace u → IsPlace w → Holds how u w → PointersAre how u w
  pointers how value.Null value.Null p q h = h
  pointers how value.Null (value.Block n) p q h = h
  pointers how (value.Block m) value.Null p q h = h
  pointers how (value.Block m) (value.Block n) p q h = h
  pointers how value.Null (value.Word z) p q h = absurd q
  pointers how value.Null value.Unwritten p q h = absurd q
  pointers how (value.Block m) (value.Word z) p q h = absurd q
  pointers how (value.Block m) value.Unwritten p q h = absurd q
  pointers how (value.Word z) w p q h = absurd p
  pointers how value.Unwritten w p q h = absurd p

  pair_of : (how : Comparison) (a b : Content) → K a → K b → Holds how (V a) (V b) → Pair a b
  pair_of how a b (nothing is) kb h = absurd (nothing_first how (V b) (subst (λ z. Holds how (V z) (V b)) is h))
  pair_of how a b (a_word p is) (nothing at) h = absurd (nothing_second how (V a) (subst (λ z. Holds how (V a) (V z)) at h))
  pair_of how a b (a_word p is) (a_word q at) h = words p q is at
  pair_of how a b (a_word p is) (a_place q at pl) h = absurd (words_only how _ (place_of v q) pl (subst₂ (λ y z. Holds how (V y) (V z)) is at h))
  pair_of how a b (a_place p is pl) (nothing at) h = absurd (nothing_second how (V a) (subst (λ z. Holds how (V a) (V z)) at h))
  pair_of how a b (a_place p is pl) (a_word q at) h = absurd (places_only how (place_of v p) _ pl (subst₂ (λ y z. Holds how (V y) (V z)) is at h))
  pair_of how a b (a_place p is pl) (a_place q at pl') h = places p q is at pl pl'

  -- a condition that may be assumed
  pub record MayBe (o : Option Conj) : Type 0 where
    pub conjunct : Conj
    pub is : o ≡ Some conjunct
    pub sorted : is_well_sorted vars conjunct ≡ true
    pub says : IsTrueUnder v conjunct

  both_ints : (p q : Polynomial) → Good vars pure (Word p) → Good vars pure (Word q) → (is_int_polynomial vars p && is_int_polynomial vars q) ≡ true
  both_ints p q g h = and_from _ _ (good_ints vars pure v fits true_of p g) (good_ints vars pure v fits true_of q h)

  words_may : (how : Comparison) (p q : Polynomial) → Good vars pure (Word p) → Good vars pure (Word q) → WordsAre how (signed (word_of v p)) (signed (word_of v q)) → MayBe (condition how (Word p) (Word q))
  words_may Equal p q g h e = let d = difference_good vars pure p q g h in record {
    conjunct = conjunct.Equal (difference_of p q);
    is = refl;
    sorted = good_ints vars pure v fits true_of (difference_of p q) d;
    says = (good_words vars pure v fits true_of (difference_of p q) d, (zero_difference v p q h.0).1 e);
  }
  words_may Unequal p q g h e = let d = difference_good vars pure p q g h in record {
    conjunct = conjunct.Unequal (difference_of p q);
    is = refl;
    sorted = good_ints vars pure v fits true_of (difference_of p q) d;
    says = (good_words vars pure v fits true_of (difference_of p q) d, λ z. e ((zero_difference v p q h.0).0 z));
  }
  words_may Less p q g h e = record {
    conjunct = conjunct.Less p q;
    is = refl;
    sorted = both_ints p q g h;
    says = (good_words vars pure v fits true_of p g, good_words vars pure v fits true_of q h, e);
  }
  words_may AtMost p q g h e = record {
    conjunct = conjunct.AtMost p q;
    is = refl;
    sorted = both_ints p q g h;
    says = (good_words vars pure v fits true_of p g, good_words vars pure v fits true_of q h, e);
  }
  words_may SamePlace p q g h e = absurd e
  words_may OtherPlace p q g h e = absurd e

  places_may : (how : Comparison) (p q : PlaceOf) → Good vars pure (Place p) → Good vars pure (Place q) → IsPlace (place_of v p) → IsPlace (place_of v q) → PointersAre how (place_of v p) (place_of v q) →
      MayBe (condition how (Place p) (Place q))
  places_may Equal p q g h a b e = absurd e
  places_may Unequal p q g h a b e = absurd e
  places_may Less p q g h a b e = absurd e
  places_may AtMost p q g h a b e = absurd e
  places_may SamePlace p q g h a b e = record {
    conjunct = conjunct.SamePlace p q;
    is = refl;
    sorted = and_from _ _ (good_pointer vars pure v fits true_of p g) (good_pointer vars pure v fits true_of q h);
    says = ((a, b), e);
  }
  places_may OtherPlace p q g h a b e = record {
    conjunct = conjunct.OtherPlace p q;
    is = refl;
    sorted = and_from _ _ (good_pointer vars pure v fits true_of p g) (good_pointer vars pure v fits true_of q h);
    says = ((a, b), e);
  }

  -- what holds of values is a condition that may be assumed of their contents
  pub condition_may : (how : Comparison) (a b : Content) → Good vars pure a → Good vars pure b → K a → K b → Holds how (V a) (V b) → MayBe (condition how a b)
  condition_may how a b g h ka kb holds = by (pair_of how a b ka kb holds)
    where
      by : Pair a b → MayBe (condition how a b)
      by (words p q is at) =
          subst₂ (λ y z. MayBe (condition how y z)) (sym is) (sym at) (words_may how p q (subst (Good vars pure) is g) (subst (Good vars pure) at h) (subst₂ (λ y z. Holds how (V y) (V z)) is at holds))
      by (places p q is at pl pl') =
          subst₂ (λ y z. MayBe (condition how y z)) (sym is) (sym at)
          (places_may how p q (subst (Good vars pure) is g) (subst (Good vars pure) at h) pl pl' (pointers how (place_of v p) (place_of v q) pl pl' (subst₂ (λ y z. Holds how (V y) (V z)) is at holds)))

  pub contrary_may : (how : Comparison) (a b : Content) → Good vars pure a → Good vars pure b → K a → K b → Fails how (V a) (V b) → MayBe (contrary how a b)
  contrary_may Equal a b g h ka kb holds = condition_may Unequal a b g h ka kb holds
  contrary_may Unequal a b g h ka kb holds = condition_may Equal a b g h ka kb holds
  contrary_may Less a b g h ka kb holds = condition_may AtMost b a h g kb ka holds
  contrary_may AtMost a b g h ka kb holds = condition_may Less b a h g kb ka holds
  contrary_may SamePlace a b g h ka kb holds = condition_may OtherPlace a b g h ka kb holds
  contrary_may OtherPlace a b g h ka kb holds = condition_may SamePlace a b g h ka kb holds

  -- ---- results

  -- an operator on words makes a word
  pub operation_int : (op : Operator) (a b c : Content) → (op ≡ Copy → ⊥) → Good vars pure a → Good vars pure b → operation op a b ≡ Some c → fits_cell vars Int c ≡ true
  operation_int Copy a b c other g h e = absurd (other refl)
  operation_int Neg (Word p) b c other g h e = subst (λ z. fits_cell vars Int z ≡ true) (same_Some _ _ e) (good_ints vars pure v fits true_of (difference_of (number (pos 0)) p) (difference_good vars pure (number (pos 0)) p zero g))
    where
      zero : Good vars pure (Word (number (pos 0)))
      zero = number_good vars pure (pos 0) (omega arith)
  operation_int Neg Unwritten b c other g h e = absent e
  operation_int Neg (Place a) b c other g h e = absent e
  operation_int Neg (Cell x) b c other g h e = absent e
  operation_int Add a b c other g h e = let (p, q, is, at, same) = two sum_of a b c e in subst (λ z. fits_cell vars Int z ≡ true) same (good_ints vars pure v fits true_of (sum_of p q) (sum_good vars pure p q (subst (Good vars pure) is g) (subst (Good vars pure) at h)))
  operation_int Sub a b c other g h e = let (p, q, is, at, same) = two difference_of a b c e in subst (λ z. fits_cell vars Int z ≡ true) same (good_ints vars pure v fits true_of (difference_of p q) (difference_good vars pure p q (subst (Good vars pure) is g) (subst (Good vars pure) at h)))
  operation_int Mul a b c other g h e = let (p, q, is, at, same) = two product_of a b c e in subst (λ z. fits_cell vars Int z ≡ true) same (good_ints vars pure v fits true_of (product_of p q) (product_good vars pure p q (subst (Good vars pure) is g) (subst (Good vars pure) at h)))

-- ---- outcomes

-- 1 minus an outcome is one, and a copy of one
pub outcome_of_sub : (b c : Content) → IsOutcome b → operation Sub (Word (number (pos 1))) b ≡ Some c → IsOutcome c
outcome_of_sub b c (inl is) e = absent (sym (ap (operation Sub (Word (number (pos 1)))) is) ∙ e)
outcome_of_sub b c (inr (inl is)) e = inr (inr (sym (same_Some _ _ (sym (ap (operation Sub (Word (number (pos 1)))) is) ∙ e))))
outcome_of_sub b c (inr (inr is)) e = inr (inl (sym (same_Some _ _ (sym (ap (operation Sub (Word (number (pos 1)))) is) ∙ e))))
