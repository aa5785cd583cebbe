-- Contents and what they are under a valuation.
use Rattle.std.proofs.Common.{◌≡◌, ℕ, ◌+◌, ◌*◌, ◌%◌, ◌^◌, ◌<◌, Bool, true, false, not, nat_eq, ◌||◌, Option, Some, None, List, [], ◌∷◌, ◌++◌, map, pos, slice_get, slice_set, refl, sym, ap, ◌∙◌, subst, arith}
use Rattle.std.specs.Prelude.{ℤ, FitsSigned}
use Rattle.std.specs.Int.{w32}
use Rattle.std.proofs.Math.ListN.{get_or-map}
use Rattle.std.proofs.lemmas.List.{map-set}
use Rattle.std.proofs.lemmas.List.Elements.{All-nil}
use Rattle.std.proofs.lemmas.Bool.{eqb-true}
use Rattle.std.proofs.lemmas.Option.{same_Some}
use Rattle.px_terms.specs.Words.{word, signed}
use Rattle.px_terms.specs.Terms.{Term}
use Rattle.px_terms.specs.Polynomials.{Polynomial, IsPolynomial, terms_of, negated, difference_of}
use Rattle.px_terms.specs.Substitutions.{variable}
use Rattle.px_terms.specs.Valuations.{Valuation, number_of, IsPlace, IsUnwritten, HasType, FitsSort, Fits}
use Rattle.px_terms.specs.Conjuncts.{word_of, place_of, IsTrueUnder}
use Rattle.px_terms.specs.declared.types.Value.{Value}
use Rattle.px_terms.specs.declared.types.Value.TheVariants as value
use Rattle.px_terms.specs.declared.types.ValueType.{ValueType}
use Rattle.px_terms.specs.declared.types.ValueType.TheVariants.{Int, Pointer}
use Rattle.px_terms.specs.declared.variables.VarInfo.{VarInfo}
use Rattle.px_terms.specs.declared.variables.Sort.{Sort}
use Rattle.px_terms.specs.declared.variables.Sort.TheVariants as sort
use Rattle.px_terms.specs.declared.conjuncts.Place.{Place as PlaceOf}
use Rattle.px_terms.specs.declared.conjuncts.Place.TheVariants as place
use Rattle.px_terms.specs.declared.conjuncts.Content.{Content}
use Rattle.px_terms.specs.declared.conjuncts.Content.TheVariants.{Unwritten, Word, Place, Cell}
use Rattle.px_terms.specs.declared.conjuncts.Conj.{Conj}
use Rattle.px_terms.specs.declared.conjuncts.Conj.TheVariants as conjunct
use Rattle.px_terms.proofs.WordLaws.{words_are_signed}
use Rattle.px_terms.proofs.NormalForm.{form_polynomial}
use Rattle.px_terms.proofs.TermWords.{signed_of, sum_signed, difference_signed, product_signed, negation_signed, zero_difference}
use Rattle.px_core.specs.declared.command.Operand.{Operand}
use Rattle.px_core.specs.declared.command.Operand.TheVariants as operand
use Rattle.px_core.specs.declared.command.Operator.{Operator}
use Rattle.px_core.specs.declared.command.Operator.TheVariants.{Copy, Neg, Add, Sub, Mul}
use Rattle.px_core.specs.declared.command.Comparison.{Comparison}
use Rattle.px_core.specs.declared.command.Comparison.TheVariants.{Equal, Unequal, Less, AtMost, SamePlace, OtherPlace}
use Rattle.px_core.specs.Constants.{IsInRange}
use Rattle.px_entry.specs.Sorts.{is_some_and, is_cell_sort, is_pointer_type, is_cell, is_pointer}
use Rattle.px_entry.specs.Contents.{variable_content}
use Rattle.px_entry.specs.Regular.{is_said_written}
use Rattle.px_entry.specs.Standing.{content_value, contents_value}
use Rattle.px_entry.proofs.Lists.{Each}
use Rattle.px_callgraph.specs.declared.states.State.{State}
use Rattle.px_callgraph.specs.States.{content_at, number, operand_content}
use Rattle.px_callgraph.specs.Operations.{of_words, of_places, operation, condition, contrary}
use Rattle.px_callgraph.specs.Commands.{outcome_of}
use Rattle.px_meaning.specs.Operations as core
use Rattle.px_meaning.specs.Operations.{value_at, operand_value, result_of, PointersAre, Holds, Fails}
use Rattle.px_soundness.proofs.WellFormed.{is_usable, Good}
use Rattle.px_soundness.proofs.AtomHeaps.{absent}
use Rattle.px_soundness.proofs.Truths.{Says, HasForm, variable_is, stands_says}

-- ---- good contents

constant_form : (c : ℕ) → c < 2 ^ 32 → IsPolynomial (record { constant = c; monomials = [] })
constant_form c l = record { constant = l; monomials = record { rising = tt; variables = All-nil _ } }

pub number_good : (vars : List VarInfo) (pure : List Conj) (z : ℤ) → FitsSigned w32 z → Good vars pure (Word (number z))
number_good vars pure z f = (constant_form (word z) (words_are_signed.word_fits z f), tt)

-- ---- what good contents are

pointer_type : (t : ValueType) (u : Value) → is_pointer_type t ≡ true → HasType t u → IsPlace u
pointer_type Int u e h = cc
pointer_type (Pointer t) u e h = h

usable_not_unwritten : (vars : List VarInfo) (pure : List Conj) (v : Valuation) (x : ℕ) → Each (IsTrueUnder v) pure → is_cell vars x ≡ true → is_usable vars pure x ≡ true → IsUnwritten (v x) → ⊥
usable_not_unwritten vars pure v x h c u = stands_says v (conjunct.Written (record { 0 = x })) pure h (by (is_cell vars x) (is_said_written pure x) c u)
  where
    by : (p q : Bool) → p ≡ true → (not p || q) ≡ true → q ≡ true
    by true q e f = f
    by false q e f = cc

pub sort_place : (vars : List VarInfo) (pure : List Conj) (v : Valuation) (x : ℕ) → Fits vars v → Each (IsTrueUnder v) pure → is_pointer vars x ≡ true → is_usable vars pure x ≡ true → IsPlace (v x)
sort_place vars pure v x fits h p u =
    let (i, at, q) = variable_is vars (λ (i : VarInfo). is_pointer_type i.value) x p in
    by i.sort i.value (v x) q (λ is. usable_not_unwritten vars pure v x h (cell i at is) u) (fits.sorts x i at)
  where
    cell : (i : VarInfo) → slice_get vars x ≡ Some i → i.sort ≡ sort.Cell → is_cell vars x ≡ true
    cell i at is = ap (λ (o : Option VarInfo). is_some_and o (λ (k : VarInfo). is_cell_sort k.sort)) at ∙ ap is_cell_sort is

    by : (s : Sort) (t : ValueType) (w : Value) → is_pointer_type t ≡ true → (s ≡ sort.Cell → IsUnwritten w → ⊥) → FitsSort s t w → IsPlace w
    by sort.Given t w q f h = pointer_type t w q h
    by sort.Input t w q f h = pointer_type t w q h
    by sort.Made t w q f h = pointer_type t w q h.0
    by sort.Cell t value.Unwritten q f h = absurd (f refl tt)
    by sort.Cell t (value.Word z) q f h = pointer_type t (value.Word z) q h
    by sort.Cell t value.Null q f h = pointer_type t value.Null q h
    by sort.Cell t (value.Block b) q f h = pointer_type t (value.Block b) q h

pub good_place : (vars : List VarInfo) (pure : List Conj) (v : Valuation) (a : PlaceOf) → Fits vars v → Each (IsTrueUnder v) pure → Good vars pure (Place a) → IsPlace (place_of v a)
good_place vars pure v place.Null fits h g = tt
good_place vars pure v (place.Var x) fits h g = sort_place vars pure v x.0 fits h g.0 g.1

-- ---- slots and operands

pub slot_is : (v : Valuation) (slots : List Content) (n : ℕ) → value_at (contents_value v slots) n ≡ content_value v (content_at slots n)
slot_is v slots n = get_or-map (content_value v) slots n Unwritten

pub set_is : (v : Valuation) (slots : List Content) (n : ℕ) (c : Content) → contents_value v (slice_set slots n c) ≡ slice_set (contents_value v slots) n (content_value v c)
set_is v slots n c = map-set (content_value v) slots n c

small : (c : ℕ) → c < 2 ^ 32 → (c + 0) % 2 ^ 32 ≡ c
small c l = omega arith

pub number_is : (v : Valuation) (z : ℤ) → FitsSigned w32 z → content_value v (Word (number z)) ≡ value.Word z
number_is v z f = ap (λ n. value.Word (signed n)) (small (word z) (words_are_signed.word_fits z f)) ∙ ap value.Word (words_are_signed.signed_word z f)

pub operand_is : (v : Valuation) (s : State) (a : Operand) → IsInRange a → operand_value (contents_value v s.slots) a ≡ content_value v (operand_content s a)
operand_is v s (operand.Slot n) f = slot_is v s.slots n
operand_is v s (operand.Word z) f = sym (number_is v z f)
operand_is v s operand.Null f = refl

variable_word : (v : Valuation) (x : ℕ) (z : ℤ) → FitsSigned w32 z → v x ≡ value.Word z → word_of v (variable x) ≡ word z
variable_word v x z f e = ap (λ (u : Value). (0 + (1 * (number_of u * 1) + 0)) % 2 ^ 32) e ∙ once (word z) (words_are_signed.word_fits z f)
  where
    once : (n : ℕ) → n < 2 ^ 32 → (0 + (1 * (n * 1) + 0)) % 2 ^ 32 ≡ n
    once n l = omega arith

-- a variable that has a written value is its content
pub variable_is_content : (v : Valuation) (t : ValueType) (x : ℕ) → HasType t (v x) → content_value v (variable_content t x) ≡ v x
variable_is_content v (Pointer t) x h = refl
variable_is_content v Int x h = by (v x) refl h
  where
    by : (u : Value) → v x ≡ u → HasType Int u → value.Word (signed (word_of v (variable x))) ≡ v x
    by (value.Word z) e h = ap value.Word (ap signed (variable_word v x z h e) ∙ words_are_signed.signed_word z h) ∙ sym e
    by value.Null e h = absurd h
    by (value.Block b) e h = absurd h
    by value.Unwritten e h = absurd h

-- ---- operators

module _ (vars : List VarInfo) (pure : List Conj) (v : Valuation) where
  pub operation_is : (op : Operator) (a b c : Content) → Good vars pure a → Good vars pure b → operation op a b ≡ Some c →
      result_of op (content_value v a) (content_value v b) ≡ Some (content_value v c)
  operation_is Copy a b c g h e = ap (λ x. Some (content_value v x)) (same_Some _ _ e)
  operation_is Neg (Word p) b c g h e = ap (λ z. Some (value.Word z)) (sym (negation_signed v p g.0)) ∙ ap (λ x. Some (content_value v x)) (same_Some _ _ e)
  operation_is Neg Unwritten b c g h e = absent e
  operation_is Neg (Place a) b c g h e = absent e
  operation_is Neg (Cell x) b c g h e = absent e
  operation_is Add (Word p) (Word q) c g h e = ap (λ z. Some (value.Word z)) (sym (sum_signed v p q)) ∙ ap (λ x. Some (content_value v x)) (same_Some _ _ e)
  operation_is Add (Word p) Unwritten c g h e = absent e
  operation_is Add (Word p) (Place b) c g h e = absent e
  operation_is Add (Word p) (Cell y) c g h e = absent e
  operation_is Add Unwritten b c g h e = absent e
  operation_is Add (Place a) b c g h e = absent e
  operation_is Add (Cell x) b c g h e = absent e
  operation_is Sub (Word p) (Word q) c g h e = ap (λ z. Some (value.Word z)) (sym (difference_signed v p q h.0)) ∙ ap (λ x. Some (content_value v x)) (same_Some _ _ e)
  operation_is Sub (Word p) Unwritten c g h e = absent e
  operation_is Sub (Word p) (Place b) c g h e = absent e
  operation_is Sub (Word p) (Cell y) c g h e = absent e
  operation_is Sub Unwritten b c g h e = absent e
  operation_is Sub (Place a) b c g h e = absent e
  operation_is Sub (Cell x) b c g h e = absent e
  operation_is Mul (Word p) (Word q) c g h e = ap (λ z. Some (value.Word z)) (sym (product_signed v p q)) ∙ ap (λ x. Some (content_value v x)) (same_Some _ _ e)
  operation_is Mul (Word p) Unwritten c g h e = absent e
  operation_is Mul (Word p) (Place b) c g h e = absent e
  operation_is Mul (Word p) (Cell y) c g h e = absent e
  operation_is Mul Unwritten b c g h e = absent e
  operation_is Mul (Place a) b c g h e = absent e
  operation_is Mul (Cell x) b c g h e = absent e

-- ---- comparisons

-- of two words
pub words_cases : (f : Polynomial → Polynomial → Conj) (a b : Content) (c : Conj) → of_words f a b ≡ Some c → (p : Polynomial) × (q : Polynomial) × (a ≡ Word p) × (b ≡ Word q) × (f p q ≡ c)
words_cases f (Word p) (Word q) c e = (p, q, refl, refl, same_Some _ _ e)
words_cases f (Word p) Unwritten c e = absent e
words_cases f (Word p) (Place b) c e = absent e
words_cases f (Word p) (Cell y) c e = absent e
words_cases f Unwritten b c e = absent e
words_cases f (Place a) b c e = absent e
words_cases f (Cell x) b c e = absent e

pub places_cases : (f : PlaceOf → PlaceOf → Conj) (a b : Content) (c : Conj) → of_places f a b ≡ Some c → (p : PlaceOf) × (q : PlaceOf) × (a ≡ Place p) × (b ≡ Place q) × (f p q ≡ c)
places_cases f (Place p) (Place q) c e = (p, q, refl, refl, same_Some _ _ e)
places_cases f (Place p) Unwritten c e = absent e
places_cases f (Place p) (Word b) c e = absent e
places_cases f (Place p) (Cell y) c e = absent e
places_cases f Unwritten b c e = absent e
places_cases f (Word a) b c e = absent e
places_cases f (Cell x) b c e = absent e

holds_places : (how : Comparison) (u w : Value) → IsPlace u → IsPlace w → PointersAre how u w → Holds how u w
holds_places how value.Null value.Null p q h = h
holds_places how value.Null (value.Block n) p q h = h
holds_places how (value.Block m) value.Null p q h = h
holds_places how (value.Block m) (value.Block n) p q h = h
holds_places how value.Null (value.Word z) p q h = absurd q
holds_places how value.Null value.Unwritten p q h = absurd q
holds_places how (value.Block m) (value.Word z) p q h = absurd q
holds_places how (value.Block m) value.Unwritten p q h = absurd q
holds_places how (value.Word z) w p q h = absurd p
holds_places how value.Unwritten w p q h = absurd p

module _ (vars : List VarInfo) (pure : List Conj) (v : Valuation) (fits : Fits vars v) (true_of : Each (IsTrueUnder v) pure) where
  abbrev G : Content → Type 0
  G = Good vars pure

  abbrev V : Content → Value
  V = content_value v

  words_hold : (how : Comparison) (f : Polynomial → Polynomial → Conj) (a b : Content) (c : Conj) → of_words f a b ≡ Some c → G a → G b → Says v c →
      ((p q : Polynomial) → IsPolynomial q → Says v (f p q) → core.WordsAre how (signed_of v p) (signed_of v q)) → Holds how (V a) (V b)
  words_hold how f a b c e g h t from =
      let (p, q, is, at, same) = words_cases f a b c e in
      subst (λ x. Holds how (V x) (V b)) (sym is) (subst (λ x. Holds how (V (Word p)) (V x)) (sym at) (from p q (subst G at h).0 (subst (Says v) (sym same) t)))

  places_hold : (how : Comparison) (f : PlaceOf → PlaceOf → Conj) (a b : Content) (c : Conj) → of_places f a b ≡ Some c → G a → G b → Says v c →
      ((p q : PlaceOf) → Says v (f p q) → PointersAre how (place_of v p) (place_of v q)) → Holds how (V a) (V b)
  places_hold how f a b c e g h t from =
      let (p, q, is, at, same) = places_cases f a b c e in
      subst (λ x. Holds how (V x) (V b)) (sym is) (subst (λ x. Holds how (V (Place p)) (V x)) (sym at)
      (holds_places how (place_of v p) (place_of v q) (good_place vars pure v p fits true_of (subst G is g)) (good_place vars pure v q fits true_of (subst G at h))
      (from p q (subst (Says v) (sym same) t))))

  pub condition_holds : (how : Comparison) (a b : Content) (c : Conj) → condition how a b ≡ Some c → G a → G b → Says v c → Holds how (V a) (V b)
  condition_holds Equal a b c e g h t = words_hold Equal (λ p q. conjunct.Equal (difference_of p q)) a b c e g h t (λ p q form s. (zero_difference v p q form).0 s)
  condition_holds Unequal a b c e g h t = words_hold Unequal (λ p q. conjunct.Unequal (difference_of p q)) a b c e g h t (λ p q form s z. s ((zero_difference v p q form).1 z))
  condition_holds Less a b c e g h t = words_hold Less conjunct.Less a b c e g h t (λ p q form s. s)
  condition_holds AtMost a b c e g h t = words_hold AtMost conjunct.AtMost a b c e g h t (λ p q form s. s)
  condition_holds SamePlace a b c e g h t = places_hold SamePlace conjunct.SamePlace a b c e g h t (λ p q s. s)
  condition_holds OtherPlace a b c e g h t = places_hold OtherPlace conjunct.OtherPlace a b c e g h t (λ p q s. s)

  pub contrary_fails : (how : Comparison) (a b : Content) (c : Conj) → contrary how a b ≡ Some c → G a → G b → Says v c → Fails how (V a) (V b)
  contrary_fails Equal a b c e g h t = condition_holds Unequal a b c e g h t
  contrary_fails Unequal a b c e g h t = condition_holds Equal a b c e g h t
  contrary_fails Less a b c e g h t = condition_holds AtMost b a c e h g t
  contrary_fails AtMost a b c e g h t = condition_holds Less b a c e h g t
  contrary_fails SamePlace a b c e g h t = condition_holds OtherPlace a b c e g h t
  contrary_fails OtherPlace a b c e g h t = condition_holds SamePlace a b c e g h t

module _ (vars : List VarInfo) (pure : List Conj) where
  words_form : (f : Polynomial → Polynomial → Conj) (a b : Content) (c : Conj) → of_words f a b ≡ Some c → Good vars pure a → Good vars pure b →
      ((p q : Polynomial) → IsPolynomial p → IsPolynomial q → HasForm (f p q)) → HasForm c
  words_form f a b c e g h from =
      let (p, q, is, at, same) = words_cases f a b c e in subst HasForm same (from p q (subst (Good vars pure) is g).0 (subst (Good vars pure) at h).0)

  places_form : (f : PlaceOf → PlaceOf → Conj) (a b : Content) (c : Conj) → of_places f a b ≡ Some c → ((p q : PlaceOf) → HasForm (f p q)) → HasForm c
  places_form f a b c e from = let (p, q, is, at, same) = places_cases f a b c e in subst HasForm same (from p q)

  pub condition_form : (how : Comparison) (a b : Content) (c : Conj) → condition how a b ≡ Some c → Good vars pure a → Good vars pure b → HasForm c
  condition_form Equal a b c e g h = words_form (λ p q. conjunct.Equal (difference_of p q)) a b c e g h (λ p q f k. form_polynomial (terms_of p ++ map negated (terms_of q)))
  condition_form Unequal a b c e g h = words_form (λ p q. conjunct.Unequal (difference_of p q)) a b c e g h (λ p q f k. form_polynomial (terms_of p ++ map negated (terms_of q)))
  condition_form Less a b c e g h = words_form conjunct.Less a b c e g h (λ p q f k. (f, k))
  condition_form AtMost a b c e g h = words_form conjunct.AtMost a b c e g h (λ p q f k. (f, k))
  condition_form SamePlace a b c e g h = places_form conjunct.SamePlace a b c e (λ p q. tt)
  condition_form OtherPlace a b c e g h = places_form conjunct.OtherPlace a b c e (λ p q. tt)

  pub contrary_form : (how : Comparison) (a b : Content) (c : Conj) → contrary how a b ≡ Some c → Good vars pure a → Good vars pure b → HasForm c
  contrary_form Equal a b c e g h = condition_form Unequal a b c e g h
  contrary_form Unequal a b c e g h = condition_form Equal a b c e g h
  contrary_form Less a b c e g h = condition_form AtMost b a c e h g
  contrary_form AtMost a b c e g h = condition_form Less b a c e h g
  contrary_form SamePlace a b c e g h = condition_form OtherPlace a b c e g h
  contrary_form OtherPlace a b c e g h = condition_form SamePlace a b c e g h

-- ---- outcomes

abbrev pub outcome_value : Bool → Value
outcome_value true = value.Word (pos 1)
outcome_value false = value.Word (pos 0)

pub outcome_is : (v : Valuation) (c : Content) (b : Bool) → outcome_of c ≡ Some b → content_value v c ≡ outcome_value b
outcome_is v Unwritten b e = absent e
outcome_is v (Place a) b e = absent e
outcome_is v (Cell x) b e = absent e
outcome_is v (Word p) b e = by p.constant p.monomials e
  where
    zero_or : (c : ℕ) (q : Bool) → nat_eq c 0 ≡ q → (elim q as (λ _. Option Bool) [ true ↦ Some false | false ↦ None ]) ≡ Some b → value.Word (signed ((c + 0) % 2 ^ 32)) ≡ outcome_value b
    zero_or c true is e =
        let f : false ≡ b = same_Some _ _ e in subst (λ z. value.Word (signed ((z + 0) % 2 ^ 32)) ≡ outcome_value b) (sym (eqb-true c 0 is)) (subst (λ z. value.Word (pos 0) ≡ outcome_value z) f refl)
    zero_or c false is e = absent e

    one_or : (c : ℕ) (q : Bool) → nat_eq c 1 ≡ q → (elim q as (λ _. Option Bool) [ true ↦ Some true | false ↦ elim (nat_eq c 0) as (λ _. Option Bool) [ true ↦ Some false | false ↦ None ] ]) ≡ Some b →
        value.Word (signed ((c + 0) % 2 ^ 32)) ≡ outcome_value b
    one_or c true is e =
        let f : true ≡ b = same_Some _ _ e in subst (λ z. value.Word (signed ((z + 0) % 2 ^ 32)) ≡ outcome_value b) (sym (eqb-true c 1 is)) (subst (λ z. value.Word (pos 1) ≡ outcome_value z) f refl)
    one_or c false is e = zero_or c (nat_eq c 0) refl e

    by : (c : ℕ) (ms : List Term) → outcome_of (Word (record { constant = c; monomials = ms })) ≡ Some b → content_value v (Word (record { constant = c; monomials = ms })) ≡ outcome_value b
    by c [] e = one_or c (nat_eq c 1) refl e
    by c (m ∷ ms) e = absent e
