-- Conjuncts that are decided without a solver, and what they and atoms add to a state.
use Rattle.std.specs.Prelude.{ℕ, ◌&&◌, ◌||◌, not, Bool, true, false, nat_eq, int_lt, int_le, List, [], ◌∷◌, ◌++◌, Option, Some, None, option_map}
use Rattle.std.specs.List.{list_any}
use Rattle.px_terms.specs.Words.{signed}
use Rattle.px_terms.specs.Polynomials.{Polynomial}
use Rattle.px_terms.specs.declared.variables.VarInfo.{VarInfo}
use Rattle.px_terms.specs.declared.conjuncts.Place.{Place}
use Rattle.px_terms.specs.declared.conjuncts.Place.TheVariants as place
use Rattle.px_terms.specs.declared.conjuncts.Conj.{Conj}
use Rattle.px_terms.specs.declared.conjuncts.Conj.TheVariants.{Equal, Unequal, Less, AtMost, SamePlace, OtherPlace, Written, Unwritten, Quotient}
use Rattle.px_entry.specs.Sorts.{is_made, is_well_sorted, is_long_conjunct}
use Rattle.px_entry.specs.Equality.{same_conjunct}

-- the word of a polynomial without variables
abbrev pub word_of : Polynomial → Option ℕ
word_of p = elim p.monomials [ [] ↦ Some p.constant | _ ∷ _ ↦ None ]

abbrev pub compared : (ℕ → ℕ → Bool) → Option ℕ → Option ℕ → Option Bool
compared test (Some a) (Some b) = Some (test a b)
compared test (Some a) None = None
compared test None b = None

abbrev pub is_less : ℕ → ℕ → Bool
is_less a b = int_lt (signed a) (signed b)

abbrev pub is_at_most : ℕ → ℕ → Bool
is_at_most a b = int_le (signed a) (signed b)

-- the block of a made variable is that of no other variable, and isn't null
abbrev pub is_same_place : List VarInfo → Place → Place → Option Bool
is_same_place vars place.Null place.Null = Some true
is_same_place vars place.Null (place.Var y) = elim (is_made vars y.0) [ true ↦ Some false | false ↦ None ]
is_same_place vars (place.Var x) place.Null = elim (is_made vars x.0) [ true ↦ Some false | false ↦ None ]
is_same_place vars (place.Var x) (place.Var y) =
    elim (nat_eq x.0 y.0) [ true ↦ Some true | false ↦ elim (is_made vars x.0 || is_made vars y.0) [ true ↦ Some false | false ↦ None ] ]

-- A conjunct is decided where it has no variable, or compares a place with itself, or compares the place of
-- a made variable with anything.
abbrev pub decided : List VarInfo → Conj → Option Bool
decided vars (Equal p) = option_map (λ a. nat_eq a 0) (word_of p)
decided vars (Unequal p) = option_map (λ a. not (nat_eq a 0)) (word_of p)
decided vars (Less p q) = compared is_less (word_of p) (word_of q)
decided vars (AtMost p q) = compared is_at_most (word_of p) (word_of q)
decided vars (SamePlace a b) = is_same_place vars a b
decided vars (OtherPlace a b) = option_map not (is_same_place vars a b)
decided vars (Written x) = None
decided vars (Unwritten x) = None
decided vars (Quotient x p q) = None

abbrev pub is_true : Option Bool → Bool
is_true None = false
is_true (Some b) = b

abbrev pub is_false : Option Bool → Bool
is_false None = false
is_false (Some b) = not b

-- A conjunct is open where it is well sorted and not decided false. One whose terms are too long to be kept
-- is neither tested nor decided.
abbrev pub is_open : List VarInfo → Conj → Bool
is_open vars c = is_long_conjunct c || (is_well_sorted vars c && not (is_false (decided vars c)))

abbrev pub stands_in : List Conj → Conj → Bool
stands_in pure c = not (is_long_conjunct c) && list_any (same_conjunct c) pure

-- the conjuncts with one more, unless it is decided true or stands there already
abbrev pub assume : List VarInfo → List Conj → Conj → List Conj
assume vars pure c = elim (is_true (decided vars c) || stands_in pure c) [ true ↦ pure | false ↦ pure ++ c ∷ [] ]
