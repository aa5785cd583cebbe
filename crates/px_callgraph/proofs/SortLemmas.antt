-- States that stay well sorted.
use Rattle.std.proofs.Common.{◌≡◌, ℕ, zero, suc, ◌<◌, List, [], ◌∷◌, ◌++◌, length, Bool, true, false, not, nat_lt, ◌&&◌, ◌||◌, ◌⊎◌, inl, inr, slice_set, refl, ap, ◌∙◌, arith}
use Rattle.std.specs.List.{list_all, list_any}
use Rattle.std.proofs.lemmas.Bool.{and_parts, and_from, ltb-true, lt-ltb, or_cases}
use Rattle.px_terms.specs.Polynomials.{Polynomial}
use Rattle.px_terms.specs.Variables.{variables_of}
use Rattle.px_terms.specs.declared.variables.VarInfo.{VarInfo}
use Rattle.px_terms.specs.declared.conjuncts.Place.{Place}
use Rattle.px_terms.specs.declared.conjuncts.Place.TheVariants as place
use Rattle.px_terms.specs.declared.conjuncts.Content.{Content}
use Rattle.px_terms.specs.declared.conjuncts.Conj.{Conj}
use Rattle.px_terms.specs.declared.conjuncts.Conj.TheVariants.{Equal, Unequal, Less, AtMost, SamePlace, OtherPlace, Written, Unwritten, Quotient}
use Rattle.px_entry.specs.declared.atoms.Atom.{Atom}
use Rattle.px_entry.specs.declared.atoms.AtomState.{AtomState}
use Rattle.px_entry.specs.Sorts.{is_variable_with, is_int, is_pointer, is_int_polynomial, is_pointer_place, is_well_sorted, is_long, is_long_conjunct}
use Rattle.px_entry.specs.Decided.{is_open, is_true, is_false, decided, stands_in}
use Rattle.px_callgraph.specs.declared.states.State.{State}
use Rattle.px_callgraph.specs.States.{set_slot, assumed, with_variables, with_atom, met}
use Rattle.px_callgraph.specs.Operations.{conjunct_terms}
use Rattle.px_callgraph.specs.Accesses.{set_atom, change_atom}
use Rattle.px_callgraph.specs.Laws.{IsSorted, IsKept}

-- ---- lists

pub all_more : {A : Type 0} (test test' : A → Bool) → ((x : A) → test x ≡ true → test' x ≡ true) → (xs : List A) → list_all test xs ≡ true → list_all test' xs ≡ true
all_more test test' f [] e = refl
all_more test test' f (x ∷ xs) e = let b = and_parts (test x) (list_all test xs) e in and_from (test' x) (list_all test' xs) (f x b.0) (all_more test test' f xs b.1)

pub all_push : {A : Type 0} (test : A → Bool) (xs : List A) (x : A) → list_all test xs ≡ true → test x ≡ true → list_all test (xs ++ x ∷ []) ≡ true
all_push test [] x e h = and_from (test x) true h refl
all_push test (y ∷ xs) x e h = let b = and_parts (test y) (list_all test xs) e in and_from (test y) (list_all test (xs ++ x ∷ [])) b.0 (all_push test xs x b.1 h)

pub length_set : {A : Type 0} (xs : List A) (n : ℕ) (x : A) → length (slice_set xs n x) ≡ length xs
length_set [] n x = refl
length_set (y ∷ xs) zero x = refl
length_set (y ∷ xs) (suc n) x = ap suc (length_set xs n x)

both_more : {x y x' y' : Bool} → (x ≡ true → x' ≡ true) → (y ≡ true → y' ≡ true) → (x && y) ≡ true → (x' && y') ≡ true
both_more {x} {y} {x'} {y'} f g e = let b = and_parts x y e in and_from x' y' (f b.0) (g b.1)

-- ---- more variables

pub variable_more : (vars new : List VarInfo) (test : VarInfo → Bool) (x : ℕ) → is_variable_with vars test x ≡ true → is_variable_with (vars ++ new) test x ≡ true
variable_more [] new test x e = cc
variable_more (i ∷ vars) new test zero e = e
variable_more (i ∷ vars) new test (suc x) e = variable_more vars new test x e

-- the first of the new variables
pub variable_next : (vars : List VarInfo) (i : VarInfo) (test : VarInfo → Bool) → test i ≡ true → is_variable_with (vars ++ i ∷ []) test (length vars) ≡ true
variable_next [] i test e = e
variable_next (k ∷ vars) i test e = variable_next vars i test e

pub below_more : (vars new : List VarInfo) (x : ℕ) → x < length vars → x < length (vars ++ new)
below_more [] new x l = let n : ⊥ = omega arith in absurd n
below_more (i ∷ vars) new zero l = omega arith
below_more (i ∷ vars) new (suc x) l = let h = below_more vars new x (omega arith) in omega arith

pub polynomial_more : (vars new : List VarInfo) (p : Polynomial) → is_int_polynomial vars p ≡ true → is_int_polynomial (vars ++ new) p ≡ true
polynomial_more vars new p e = all_more (is_int vars) (is_int (vars ++ new)) (λ x. variable_more vars new _ x) (variables_of p) e

place_more : (vars new : List VarInfo) (a : Place) → is_pointer_place vars a ≡ true → is_pointer_place (vars ++ new) a ≡ true
place_more vars new place.Null e = refl
place_more vars new (place.Var x) e = variable_more vars new _ x.0 e

mentioned_more : (vars new : List VarInfo) (x : ℕ) → nat_lt x (length vars) ≡ true → nat_lt x (length (vars ++ new)) ≡ true
mentioned_more vars new x e = lt-ltb x (length (vars ++ new)) (below_more vars new x (ltb-true x (length vars) e))

conjunct_more : (vars new : List VarInfo) (c : Conj) → is_well_sorted vars c ≡ true → is_well_sorted (vars ++ new) c ≡ true
conjunct_more vars new (Equal p) e = polynomial_more vars new p e
conjunct_more vars new (Unequal p) e = polynomial_more vars new p e
conjunct_more vars new (Less p q) e = both_more (polynomial_more vars new p) (polynomial_more vars new q) e
conjunct_more vars new (AtMost p q) e = both_more (polynomial_more vars new p) (polynomial_more vars new q) e
conjunct_more vars new (SamePlace a b) e = both_more (place_more vars new a) (place_more vars new b) e
conjunct_more vars new (OtherPlace a b) e = both_more (place_more vars new a) (place_more vars new b) e
conjunct_more vars new (Written x) e = mentioned_more vars new x.0 e
conjunct_more vars new (Unwritten x) e = mentioned_more vars new x.0 e
conjunct_more vars new (Quotient x p q) e = both_more (variable_more vars new _ x.0) (both_more (polynomial_more vars new p) (polynomial_more vars new q)) e

-- ---- states

pub sorted_variables : (s : State) (new : List VarInfo) → IsSorted s → IsSorted (with_variables new s)
sorted_variables s new h = record {
  pure = all_more (is_well_sorted s.vars) (is_well_sorted (s.vars ++ new)) (conjunct_more s.vars new) s.pure h.pure;
  atoms = all_more (λ (a : Atom). is_pointer s.vars a.place.0) (λ (a : Atom). is_pointer (s.vars ++ new) a.place.0) (λ a. variable_more s.vars new _ a.place.0) s.atoms h.atoms;
}

assume_by : (vars : List VarInfo) (pure : List Conj) (c : Conj) (b : Bool) → list_all (is_well_sorted vars) pure ≡ true → is_well_sorted vars c ≡ true →
    list_all (is_well_sorted vars) (elim b [ true ↦ pure | false ↦ pure ++ c ∷ [] ]) ≡ true
assume_by vars pure c true e h = e
assume_by vars pure c false e h = all_push (is_well_sorted vars) pure c e h

pub sorted_assumed : (s : State) (c : Conj) → IsSorted s → is_well_sorted s.vars c ≡ true → IsSorted (assumed c s)
sorted_assumed s c h e = record { pure = assume_by s.vars s.pure c (is_true (decided s.vars c) || stands_in s.pure c) h.pure e; atoms = h.atoms }

pub sorted_with_atom : (s : State) (a : Atom) → IsSorted s → is_pointer s.vars a.place.0 ≡ true → IsSorted (with_atom a s)
sorted_with_atom s a h e = record { pure = h.pure; atoms = all_push (λ (b : Atom). is_pointer s.vars b.place.0) s.atoms a h.atoms e }

pub sorted_met : (s : State) (a : Atom) → IsSorted s → is_pointer s.vars a.place.0 ≡ true → IsSorted (met a s)
sorted_met s a h e = record { pure = h.pure; atoms = all_push (λ (b : Atom). is_pointer s.vars b.place.0) s.atoms a h.atoms e }

set_places : (vars : List VarInfo) (n : ℕ) (state : AtomState) (atoms : List Atom) → list_all (λ (a : Atom). is_pointer vars a.place.0) atoms ≡ true →
    list_all (λ (a : Atom). is_pointer vars a.place.0) (set_atom n state atoms) ≡ true
set_places vars n state [] e = refl
set_places vars zero state (a ∷ rest) e = e
set_places vars (suc n) state (a ∷ rest) e =
    let b = and_parts (is_pointer vars a.place.0) (list_all (λ (a : Atom). is_pointer vars a.place.0) rest) e in
    and_from (is_pointer vars a.place.0) (list_all (λ (a : Atom). is_pointer vars a.place.0) (set_atom n state rest)) b.0 (set_places vars n state rest b.1)

pub sorted_changed : (s : State) (n : ℕ) (state : AtomState) → IsSorted s → IsSorted (change_atom n state s)
sorted_changed s n state h = record { pure = h.pure; atoms = set_places s.vars n state s.atoms h.atoms }

pub kept_slot : (s t : State) (n : ℕ) (c : Content) → IsKept s t → IsKept s (set_slot n c t)
kept_slot s t n c h = record { sorted = record { pure = h.sorted.pure; atoms = h.sorted.atoms }; slots = length_set t.slots n c ∙ h.slots }

-- ---- open conjuncts

pub open_cases : (vars : List VarInfo) (c : Conj) → is_open vars c ≡ true → (is_long_conjunct c ≡ true) ⊎ (is_well_sorted vars c ≡ true)
open_cases vars c e = elim (or_cases (is_long_conjunct c) (is_well_sorted vars c && not (is_false (decided vars c))) e) [
  | inl l ↦ inl l
  | inr r ↦ inr (and_parts (is_well_sorted vars c) (not (is_false (decided vars c))) r).0
]

or_none : (x : Bool) → x ≡ true → (x || false) ≡ true
or_none x e = ap (λ z. z || false) e

or_two : (x y : Bool) → (x || y) ≡ true → (x || (y || false)) ≡ true
or_two true y e = refl
or_two false y e = or_none y e

pub long_terms : (c : Conj) → is_long_conjunct c ≡ true → list_any is_long (conjunct_terms c) ≡ true
long_terms (Equal p) e = or_none (is_long p) e
long_terms (Unequal p) e = or_none (is_long p) e
long_terms (Less p q) e = or_two (is_long p) (is_long q) e
long_terms (AtMost p q) e = or_two (is_long p) (is_long q) e
long_terms (SamePlace a b) e = cc
long_terms (OtherPlace a b) e = cc
long_terms (Written x) e = cc
long_terms (Unwritten x) e = cc
long_terms (Quotient x p q) e = or_two (is_long p) (is_long q) e
