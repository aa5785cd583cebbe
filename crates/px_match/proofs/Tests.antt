-- Tests of conjuncts.
use Rattle.std.proofs.Common.{◌≡◌, ◌↔◌, Bool, true}
use Rattle.std.specs.Cmp.{both_ways}
use Rattle.px_terms.specs.declared.conjuncts.Conj.{Conj}
use Rattle.px_entry.specs.Equality.{same_conjunct}
use Rattle.px_entry.proofs.TestLemmas.{tests_decide}

pub same_as_test : (b : Bool) (c d : Conj) → (b ≡ true ↔ c ≡ d) → b ≡ same_conjunct c d
same_as_test b c d h = both_ways b (same_conjunct c d) (λ e. (tests_decide.equality c d).1 (h.0 e)) (λ e. h.1 ((tests_decide.equality c d).0 e))
