-- When terms are the same as they are stored.
use Rattle.std.specs.Prelude.{◌&&◌, Bool, true, false, nat_eq, List, [], ◌∷◌}
use Rattle.px_terms.specs.Terms.{Term}
use Rattle.px_terms.specs.Polynomials.{Polynomial}
use Rattle.px_terms.specs.declared.conjuncts.Place.{Place}
use Rattle.px_terms.specs.declared.conjuncts.Place.TheVariants as place
use Rattle.px_terms.specs.declared.conjuncts.Conj.{Conj}
use Rattle.px_terms.specs.declared.conjuncts.Conj.TheVariants.{Equal, Unequal, Less, AtMost, SamePlace, OtherPlace, Written, Unwritten, Quotient}

-- the same list, by a test of its items
abbrev pub same_list : {A : Type 0} → (A → A → Bool) → List A → List A → Bool
same_list same [] [] = true
same_list same [] (y ∷ ys) = false
same_list same (x ∷ xs) [] = false
same_list same (x ∷ xs) (y ∷ ys) = same x y && same_list same xs ys

abbrev pub same_term : Term → Term → Bool
same_term s t = nat_eq s.coefficient t.coefficient && same_list nat_eq s.vars t.vars

abbrev pub same_polynomial : Polynomial → Polynomial → Bool
same_polynomial p q = nat_eq p.constant q.constant && same_list same_term p.monomials q.monomials

abbrev pub same_place : Place → Place → Bool
same_place place.Null place.Null = true
same_place place.Null (place.Var y) = false
same_place (place.Var x) place.Null = false
same_place (place.Var x) (place.Var y) = nat_eq x.0 y.0

abbrev pub same_conjunct : Conj → Conj → Bool
same_conjunct (Equal p) (Equal q) = same_polynomial p q
same_conjunct (Unequal p) (Unequal q) = same_polynomial p q
same_conjunct (Less p q) (Less r s) = same_polynomial p r && same_polynomial q s
same_conjunct (AtMost p q) (AtMost r s) = same_polynomial p r && same_polynomial q s
same_conjunct (SamePlace a b) (SamePlace c d) = same_place a c && same_place b d
same_conjunct (OtherPlace a b) (OtherPlace c d) = same_place a c && same_place b d
same_conjunct (Written x) (Written y) = nat_eq x.0 y.0
same_conjunct (Unwritten x) (Unwritten y) = nat_eq x.0 y.0
same_conjunct (Quotient x p q) (Quotient y r s) = nat_eq x.0 y.0 && (same_polynomial p r && same_polynomial q s)
same_conjunct _ _ = false
