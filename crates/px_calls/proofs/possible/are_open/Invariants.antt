use Rattle.std.proofs.Common.{◌≡◌, drop}
use Rattle.std.specs.List.{list_all}
use Rattle.px_callgraph.specs.Renaming.{is_claim_open, claim_through}
use Rattle.px_calls.proofs.possible.are_open.Given as goal

abbrev pub invariant-loop-conjunct : goal.invariant-loop-conjunct
invariant-loop-conjunct l =
    list_all (λ c. is_claim_open l.vars (claim_through l.substitution c)) (drop l.conjunct-index l.pure) ≡ list_all (λ c. is_claim_open l.vars (claim_through l.substitution c)) l.pure
