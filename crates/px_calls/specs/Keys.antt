-- Numbers by which conjuncts are told apart.
use Rattle.std.specs.Prelude.{ℕ, ◌-◌, List, [], ◌∷◌, Option, Some, None, length, max, slice_get}
use Rattle.px_terms.specs.Terms.{Term}
use Rattle.px_terms.specs.Polynomials.{Polynomial}
use Rattle.px_terms.specs.declared.conjuncts.Place.{Place}
use Rattle.px_terms.specs.declared.conjuncts.Place.TheVariants as place
use Rattle.px_terms.specs.declared.conjuncts.Conj.{Conj}
use Rattle.px_terms.specs.declared.conjuncts.Conj.TheVariants.{Equal, Unequal, Less, AtMost, SamePlace, OtherPlace, Written, Unwritten, Quotient}

abbrev pub first_of : List ℕ → ℕ
first_of [] = 0
first_of (x ∷ xs) = x

abbrev pub first_variable : Option Term → ℕ
first_variable None = 0
first_variable (Some t) = first_of t.vars

-- the first variable of the last monomial, and 0 where there is none
abbrev pub word_key : Polynomial → ℕ
word_key p = first_variable (slice_get p.monomials (length p.monomials - 1))

abbrev pub place_key : Place → ℕ
place_key place.Null = 0
place_key (place.Var x) = x.0

-- the variable by which a conjunct is found: mostly the one of those that it mentions that came last
abbrev pub key_of : Conj → ℕ
key_of (Equal p) = word_key p
key_of (Unequal p) = word_key p
key_of (Less p q) = max (word_key p) (word_key q)
key_of (AtMost p q) = max (word_key p) (word_key q)
key_of (SamePlace a b) = max (place_key a) (place_key b)
key_of (OtherPlace a b) = max (place_key a) (place_key b)
key_of (Written x) = x.0
key_of (Unwritten x) = x.0
key_of (Quotient x p q) = x.0
