-- Which variables terms mention.
use Rattle.std.specs.Prelude.{ℕ, List, [], ◌∷◌, ◌++◌, flat_map}
use Rattle.px_terms.specs.Polynomials.{Polynomial}
use Rattle.px_terms.specs.declared.conjuncts.Place.{Place}
use Rattle.px_terms.specs.declared.conjuncts.Place.TheVariants as place
use Rattle.px_terms.specs.declared.conjuncts.Conj.{Conj}
use Rattle.px_terms.specs.declared.conjuncts.Conj.TheVariants.{Equal, Unequal, Less, AtMost, SamePlace, OtherPlace, Written, Unwritten, Quotient}

-- the variables of a polynomial, in the order of its monomials
abbrev pub variables_of : Polynomial → List ℕ
variables_of p = flat_map (λ t. t.vars) p.monomials

-- the variable of a place, if it has one
abbrev pub place_variables : Place → List ℕ
place_variables place.Null = []
place_variables (place.Var x) = x.0 ∷ []

-- the variables that a conjunct mentions
abbrev pub mentioned : Conj → List ℕ
mentioned (Equal p) = variables_of p
mentioned (Unequal p) = variables_of p
mentioned (Less p q) = variables_of p ++ variables_of q
mentioned (AtMost p q) = variables_of p ++ variables_of q
mentioned (SamePlace a b) = place_variables a ++ place_variables b
mentioned (OtherPlace a b) = place_variables a ++ place_variables b
mentioned (Written x) = x.0 ∷ []
mentioned (Unwritten x) = x.0 ∷ []
mentioned (Quotient x p q) = x.0 ∷ (variables_of p ++ variables_of q)
