-- Polynomials with room for so many variables in a monomial.
use Rattle.std.specs.Prelude.{ℕ, ◌≤◌, All, map}
use Rattle.px_terms.specs.Polynomials.{Polynomial}
use Rattle.px_terms.specs.Monomials.{term_of}
use Rattle.px_terms.specs.declared.wide.Wide.{Wide}

abbrev pub wide_of : {n : ℕ} → Wide n → Polynomial
wide_of w = record { constant = w.constant; monomials = map term_of w.monomials.items }

-- no monomial has a higher degree
abbrev pub HasDegree : {n : ℕ} → ℕ → Wide n → Type 0
HasDegree d w = All (λ m. m.degree ≤ d) w.monomials.items
