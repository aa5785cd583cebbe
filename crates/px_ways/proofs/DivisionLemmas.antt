-- Tests of polynomials.
use Rattle.std.proofs.Common.{◌≡◌, ◌↔◌, Bool, true, ap}
use Rattle.std.specs.Cmp.{both_ways}
use Rattle.px_terms.specs.Polynomials.{Polynomial}
use Rattle.px_terms.specs.declared.conjuncts.Conj.TheVariants.{Equal}
use Rattle.px_entry.specs.Equality.{same_polynomial}
use Rattle.px_entry.proofs.TestLemmas.{tests_decide}

inner : (p q : Polynomial) → Equal p ≡ Equal q → p ≡ q
inner p q e = cc

pub same_as_test : (b : Bool) (p q : Polynomial) → (b ≡ true ↔ p ≡ q) → b ≡ same_polynomial p q
same_as_test b p q h =
    both_ways b (same_polynomial p q) (λ e. (tests_decide.equality (Equal p) (Equal q)).1 (ap Equal (h.0 e))) (λ e. h.1 (inner p q ((tests_decide.equality (Equal p) (Equal q)).0 e)))
