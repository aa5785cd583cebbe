-- The tests of conjuncts answer what they test.
use Rattle.std.proofs.Common.{◌≡◌, ◌↔◌, ℕ, ◌<◌, List, [], ◌∷◌, length, Bool, true, nat_eq, nat_lt, ◌&&◌, Option, Some, None, slice_get, refl, ap, ap₂, sym, ◌∙◌}
use Rattle.std.specs.Prelude.{IsSomeAnd}
use Rattle.std.proofs.lemmas.Bool.{and_parts, and_from, eqb-true, eq-eqb, ltb-true, lt-ltb}
use Rattle.px_terms.specs.Terms.{Term}
use Rattle.px_terms.specs.Polynomials.{Polynomial}
use Rattle.px_terms.specs.Variables.{variables_of}
use Rattle.px_terms.specs.Conjuncts.{IsIntVariable, IsIntPolynomial, IsPointerPlace, IsWellSorted}
use Rattle.px_terms.specs.declared.types.TypeId.{TypeId}
use Rattle.px_terms.specs.declared.types.ValueType.{ValueType}
use Rattle.px_terms.specs.declared.types.ValueType.TheVariants.{Int, Pointer}
use Rattle.px_terms.specs.declared.variables.VarInfo.{VarInfo}
use Rattle.px_terms.specs.declared.variables.Var.{Var}
use Rattle.px_terms.specs.declared.conjuncts.Place.{Place}
use Rattle.px_terms.specs.declared.conjuncts.Place.TheVariants as place
use Rattle.px_terms.specs.declared.conjuncts.Conj.{Conj}
use Rattle.px_terms.specs.declared.conjuncts.Conj.TheVariants.{Equal, Unequal, Less, AtMost, SamePlace, OtherPlace, Written, Unwritten, Quotient}
use Rattle.px_entry.specs.Sorts.{is_int_type, is_pointer_type, is_some_and, is_int, is_int_polynomial, is_pointer_place, is_well_sorted}
use Rattle.px_entry.specs.Equality.{same_list, same_term, same_polynomial, same_place, same_conjunct}
use Rattle.px_entry.specs.Laws.{TestsDecide}
use Rattle.px_entry.proofs.Lists.{each_from, each_to, each_all, all_each}

-- ---- sorts

int_type : (t : ValueType) → is_int_type t ≡ true ↔ t ≡ Int
int_type Int = (λ e. refl, λ e. refl)
int_type (Pointer t) = (λ e. cc, λ e. let f : is_int_type (Pointer t) ≡ is_int_type Int = ap is_int_type e in f)

pointer_type : (t : ValueType) → is_pointer_type t ≡ true ↔ ((u : TypeId) × (t ≡ Pointer u))
pointer_type Int = (λ e. cc, λ e. let f : is_pointer_type Int ≡ is_pointer_type (Pointer e.0) = ap is_pointer_type e.1 in f)
pointer_type (Pointer t) = (λ e. (t, refl), λ e. refl)

int_variable : (o : Option VarInfo) → is_some_and o (λ (i : VarInfo). is_int_type i.value) ≡ true ↔ IsSomeAnd o (λ (i : VarInfo). i.value ≡ Int)
int_variable None = (λ e. cc, λ h. absurd h)
int_variable (Some i) = int_type i.value

pointer_variable : (o : Option VarInfo) → is_some_and o (λ (i : VarInfo). is_pointer_type i.value) ≡ true ↔ IsSomeAnd o (λ (i : VarInfo). (t : TypeId) × (i.value ≡ Pointer t))
pointer_variable None = (λ e. cc, λ h. absurd h)
pointer_variable (Some i) = pointer_type i.value

int_polynomial : (vars : List VarInfo) (p : Polynomial) → is_int_polynomial vars p ≡ true ↔ IsIntPolynomial vars p
int_polynomial vars p = (
  λ e. each_all (IsIntVariable vars) (variables_of p) (each_from (is_int vars) (IsIntVariable vars) (λ x. (int_variable (slice_get vars x)).0) (variables_of p) e),
  λ h. each_to (is_int vars) (IsIntVariable vars) (λ x. (int_variable (slice_get vars x)).1) (variables_of p) (all_each (IsIntVariable vars) (variables_of p) h),
)

pointer_place : (vars : List VarInfo) (a : Place) → is_pointer_place vars a ≡ true ↔ IsPointerPlace vars a
pointer_place vars place.Null = (λ e. tt, λ h. refl)
pointer_place vars (place.Var x) = pointer_variable (slice_get vars x.0)

both : {A B : Type 0} (x y : Bool) → (x ≡ true ↔ A) → (y ≡ true ↔ B) → ((x && y) ≡ true ↔ (A × B))
both x y h k = (λ e. let b = and_parts x y e in (h.0 b.0, k.0 b.1), λ p. and_from x y (h.1 p.0) (k.1 p.1))

three : {A B C : Type 0} (x y z : Bool) → (x ≡ true ↔ A) → (y ≡ true ↔ B) → (z ≡ true ↔ C) → ((x && (y && z)) ≡ true ↔ (A × B × C))
three x y z f g h = (
  λ e. let a = and_parts x (y && z) e in let b = and_parts y z a.1 in (f.0 a.0, g.0 b.0, h.0 b.1),
  λ p. and_from x (y && z) (f.1 p.0) (and_from y z (g.1 p.1) (h.1 p.2)),
)

below : (n m : ℕ) → nat_lt n m ≡ true ↔ n < m
below n m = (ltb-true n m, lt-ltb n m)

pub well_sorted : (vars : List VarInfo) (c : Conj) → is_well_sorted vars c ≡ true ↔ IsWellSorted vars c
well_sorted vars (Equal p) = int_polynomial vars p
well_sorted vars (Unequal p) = int_polynomial vars p
well_sorted vars (Less p q) = both _ _ (int_polynomial vars p) (int_polynomial vars q)
well_sorted vars (AtMost p q) = both _ _ (int_polynomial vars p) (int_polynomial vars q)
well_sorted vars (SamePlace a b) = both _ _ (pointer_place vars a) (pointer_place vars b)
well_sorted vars (OtherPlace a b) = both _ _ (pointer_place vars a) (pointer_place vars b)
well_sorted vars (Written x) = below x.0 (length vars)
well_sorted vars (Unwritten x) = below x.0 (length vars)
well_sorted vars (Quotient x p q) = three _ _ _ (int_variable (slice_get vars x.0)) (int_polynomial vars p) (int_polynomial vars q)

-- ---- equality: a test that gives equal items, and answers true of the same

list_equal : {A : Type 0} (same : A → A → Bool) → ((x y : A) → same x y ≡ true → x ≡ y) → (xs ys : List A) → same_list same xs ys ≡ true → xs ≡ ys
list_equal same equal [] [] e = refl
list_equal same equal [] (y ∷ ys) e = cc
list_equal same equal (x ∷ xs) [] e = cc
list_equal same equal (x ∷ xs) (y ∷ ys) e = let b = and_parts (same x y) (same_list same xs ys) e in ap₂ (λ z zs. z ∷ zs) (equal x y b.0) (list_equal same equal xs ys b.1)

list_itself : {A : Type 0} (same : A → A → Bool) → ((x : A) → same x x ≡ true) → (xs : List A) → same_list same xs xs ≡ true
list_itself same itself [] = refl
list_itself same itself (x ∷ xs) = and_from (same x x) (same_list same xs xs) (itself x) (list_itself same itself xs)

pub number_itself : (n : ℕ) → nat_eq n n ≡ true
number_itself n = eq-eqb n n refl

term_equal : (s t : Term) → same_term s t ≡ true → s ≡ t
term_equal s t e =
    let b = and_parts (nat_eq s.coefficient t.coefficient) (same_list nat_eq s.vars t.vars) e in
    ap₂ (λ c vs. record { coefficient = c; vars = vs }) (eqb-true s.coefficient t.coefficient b.0) (list_equal nat_eq eqb-true s.vars t.vars b.1)

term_itself : (t : Term) → same_term t t ≡ true
term_itself t = and_from _ _ (number_itself t.coefficient) (list_itself nat_eq number_itself t.vars)

polynomial_equal : (p q : Polynomial) → same_polynomial p q ≡ true → p ≡ q
polynomial_equal p q e =
    let b = and_parts (nat_eq p.constant q.constant) (same_list same_term p.monomials q.monomials) e in
    ap₂ (λ c ms. record { constant = c; monomials = ms }) (eqb-true p.constant q.constant b.0) (list_equal same_term term_equal p.monomials q.monomials b.1)

polynomial_itself : (p : Polynomial) → same_polynomial p p ≡ true
polynomial_itself p = and_from _ _ (number_itself p.constant) (list_itself same_term term_itself p.monomials)

pub var_equal : (x y : Var) → nat_eq x.0 y.0 ≡ true → x ≡ y
var_equal x y e = ap (λ n. record { 0 = n }) (eqb-true x.0 y.0 e)

place_equal : (a b : Place) → same_place a b ≡ true → a ≡ b
place_equal place.Null place.Null e = refl
place_equal place.Null (place.Var y) e = cc
place_equal (place.Var x) place.Null e = cc
place_equal (place.Var x) (place.Var y) e = ap place.Var (var_equal x y e)

place_itself : (a : Place) → same_place a a ≡ true
place_itself place.Null = refl
place_itself (place.Var x) = number_itself x.0

two_equal : {A : Type 0} (same : A → A → Bool) → ((x y : A) → same x y ≡ true → x ≡ y) → (f : A → A → Conj) (a b c d : A) → (same a c && same b d) ≡ true → f a b ≡ f c d
two_equal same equal f a b c d e = let p = and_parts (same a c) (same b d) e in ap₂ f (equal a c p.0) (equal b d p.1)

conjunct_equal : (c d : Conj) → same_conjunct c d ≡ true → c ≡ d
conjunct_equal (Equal p) (Equal q) e = ap Equal (polynomial_equal p q e)
conjunct_equal (Unequal p) (Unequal q) e = ap Unequal (polynomial_equal p q e)
conjunct_equal (Less p q) (Less r s) e = two_equal same_polynomial polynomial_equal Less p q r s e
conjunct_equal (AtMost p q) (AtMost r s) e = two_equal same_polynomial polynomial_equal AtMost p q r s e
conjunct_equal (SamePlace a b) (SamePlace c d) e = two_equal same_place place_equal SamePlace a b c d e
conjunct_equal (OtherPlace a b) (OtherPlace c d) e = two_equal same_place place_equal OtherPlace a b c d e
conjunct_equal (Written x) (Written y) e = ap Written (var_equal x y e)
conjunct_equal (Unwritten x) (Unwritten y) e = ap Unwritten (var_equal x y e)
conjunct_equal (Quotient x p q) (Quotient y r s) e =
    let b = and_parts (nat_eq x.0 y.0) (same_polynomial p r && same_polynomial q s) e in
    ap (λ z. Quotient z p q) (var_equal x y b.0) ∙ two_equal same_polynomial polynomial_equal (Quotient y) p q r s b.1
conjunct_equal _ _ e = cc

conjunct_itself : (c : Conj) → same_conjunct c c ≡ true
conjunct_itself (Equal p) = polynomial_itself p
conjunct_itself (Unequal p) = polynomial_itself p
conjunct_itself (Less p q) = and_from _ _ (polynomial_itself p) (polynomial_itself q)
conjunct_itself (AtMost p q) = and_from _ _ (polynomial_itself p) (polynomial_itself q)
conjunct_itself (SamePlace a b) = and_from _ _ (place_itself a) (place_itself b)
conjunct_itself (OtherPlace a b) = and_from _ _ (place_itself a) (place_itself b)
conjunct_itself (Written x) = number_itself x.0
conjunct_itself (Unwritten x) = number_itself x.0
conjunct_itself (Quotient x p q) = and_from _ _ (number_itself x.0) (and_from _ _ (polynomial_itself p) (polynomial_itself q))

pub tests_decide : TestsDecide
tests_decide = record {
  sorts = well_sorted;
  equality = λ c d. (conjunct_equal c d, λ e. ap (same_conjunct c) (sym e) ∙ conjunct_itself c);
}
