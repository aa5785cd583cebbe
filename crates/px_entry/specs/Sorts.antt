-- What a list of variables says of each, and which terms are well sorted by it. These are the tests; what
-- they test stands in px_terms.
use Rattle.std.specs.Prelude.{ℕ, ◌&&◌, ◌||◌, Bool, true, false, nat_eq, nat_lt, List, length, Option, Some, None, slice_get}
use Rattle.std.specs.List.{list_all, list_any}
use Rattle.px_terms.specs.Terms.{Term}
use Rattle.px_terms.specs.Polynomials.{Polynomial, most_monomials, most_degree}
use Rattle.px_terms.specs.Variables.{variables_of}
use Rattle.px_terms.specs.declared.types.TypeId.{TypeId}
use Rattle.px_terms.specs.declared.types.ValueType.{ValueType}
use Rattle.px_terms.specs.declared.types.ValueType.TheVariants.{Int, Pointer}
use Rattle.px_terms.specs.declared.variables.Sort.{Sort}
use Rattle.px_terms.specs.declared.variables.Sort.TheVariants.{Given, Cell, Input, Made}
use Rattle.px_terms.specs.declared.variables.VarInfo.{VarInfo}
use Rattle.px_terms.specs.declared.conjuncts.Place.{Place}
use Rattle.px_terms.specs.declared.conjuncts.Place.TheVariants as place
use Rattle.px_terms.specs.declared.conjuncts.Conj.{Conj}
use Rattle.px_terms.specs.declared.conjuncts.Conj.TheVariants.{Equal, Unequal, Less, AtMost, SamePlace, OtherPlace, Written, Unwritten, Quotient}

-- ---- sorts and types

abbrev pub is_given_sort : Sort → Bool
is_given_sort Given = true
is_given_sort Cell = false
is_given_sort Input = false
is_given_sort Made = false

abbrev pub is_cell_sort : Sort → Bool
is_cell_sort Given = false
is_cell_sort Cell = true
is_cell_sort Input = false
is_cell_sort Made = false

abbrev pub is_input_sort : Sort → Bool
is_input_sort Given = false
is_input_sort Cell = false
is_input_sort Input = true
is_input_sort Made = false

abbrev pub is_made_sort : Sort → Bool
is_made_sort Given = false
is_made_sort Cell = false
is_made_sort Input = false
is_made_sort Made = true

abbrev pub same_type : ValueType → ValueType → Bool
same_type Int Int = true
same_type Int (Pointer t) = false
same_type (Pointer s) Int = false
same_type (Pointer s) (Pointer t) = nat_eq s.0 t.0

abbrev pub is_int_type : ValueType → Bool
is_int_type Int = true
is_int_type (Pointer t) = false

abbrev pub is_pointer_type : ValueType → Bool
is_pointer_type Int = false
is_pointer_type (Pointer t) = true

-- ---- variables

abbrev pub is_some_and : {A : Type 0} → Option A → (A → Bool) → Bool
is_some_and None test = false
is_some_and (Some x) test = test x

-- a variable of the list that passes a test
abbrev pub is_variable_with : List VarInfo → (VarInfo → Bool) → ℕ → Bool
is_variable_with vars test x = is_some_and (slice_get vars x) test

abbrev pub is_given : List VarInfo → ℕ → Bool
is_given vars x = is_variable_with vars (λ i. is_given_sort i.sort) x

abbrev pub is_cell : List VarInfo → ℕ → Bool
is_cell vars x = is_variable_with vars (λ i. is_cell_sort i.sort) x

abbrev pub is_input : List VarInfo → ℕ → Bool
is_input vars x = is_variable_with vars (λ i. is_input_sort i.sort) x

abbrev pub is_made : List VarInfo → ℕ → Bool
is_made vars x = is_variable_with vars (λ i. is_made_sort i.sort) x

abbrev pub has_type : List VarInfo → ValueType → ℕ → Bool
has_type vars t x = is_variable_with vars (λ i. same_type i.value t) x

-- an `int`
abbrev pub is_int : List VarInfo → ℕ → Bool
is_int vars x = is_variable_with vars (λ i. is_int_type i.value) x

-- a pointer, to whatever type
abbrev pub is_pointer : List VarInfo → ℕ → Bool
is_pointer vars x = is_variable_with vars (λ i. is_pointer_type i.value) x

-- ---- terms

abbrev pub is_int_polynomial : List VarInfo → Polynomial → Bool
is_int_polynomial vars p = list_all (is_int vars) (variables_of p)

-- null or a pointer
abbrev pub is_pointer_place : List VarInfo → Place → Bool
is_pointer_place vars place.Null = true
is_pointer_place vars (place.Var x) = is_pointer vars x.0

-- null or a pointer to blocks of this type
abbrev pub is_place_of : List VarInfo → TypeId → Place → Bool
is_place_of vars t place.Null = true
is_place_of vars t (place.Var x) = has_type vars (Pointer t) x.0

-- a conjunct mentions variables of the list alone, each by its type
abbrev pub is_well_sorted : List VarInfo → Conj → Bool
is_well_sorted vars (Equal p) = is_int_polynomial vars p
is_well_sorted vars (Unequal p) = is_int_polynomial vars p
is_well_sorted vars (Less p q) = is_int_polynomial vars p && is_int_polynomial vars q
is_well_sorted vars (AtMost p q) = is_int_polynomial vars p && is_int_polynomial vars q
is_well_sorted vars (SamePlace a b) = is_pointer_place vars a && is_pointer_place vars b
is_well_sorted vars (OtherPlace a b) = is_pointer_place vars a && is_pointer_place vars b
is_well_sorted vars (Written x) = nat_lt x.0 (length vars)
is_well_sorted vars (Unwritten x) = nat_lt x.0 (length vars)
is_well_sorted vars (Quotient x p q) = is_int vars x.0 && (is_int_polynomial vars p && is_int_polynomial vars q)

-- too many monomials, or one of too high a degree: a polynomial that can't be kept
abbrev pub is_long : Polynomial → Bool
is_long p = nat_lt most_monomials (length p.monomials) || list_any (λ (t : Term). nat_lt most_degree (length t.vars)) p.monomials

abbrev pub is_long_conjunct : Conj → Bool
is_long_conjunct (Equal p) = is_long p
is_long_conjunct (Unequal p) = is_long p
is_long_conjunct (Less p q) = is_long p || is_long q
is_long_conjunct (AtMost p q) = is_long p || is_long q
is_long_conjunct (SamePlace a b) = false
is_long_conjunct (OtherPlace a b) = false
is_long_conjunct (Written x) = false
is_long_conjunct (Unwritten x) = false
is_long_conjunct (Quotient x p q) = is_long p || is_long q
