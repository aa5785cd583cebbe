-- Monomials as they are kept.
use Rattle.std.specs.Prelude.{ℕ, take}
use Rattle.px_terms.specs.Terms.{Term}
use Rattle.px_terms.specs.declared.monomial.Monomial.{Monomial}

-- the term of a monomial
abbrev pub term_of : {n : ℕ} → Monomial n → Term
term_of m = record { coefficient = m.coefficient; vars = take m.degree m.vars }
