use Rattle.std.proofs.Common.{refl, arith}
use Rattle.std.proofs.lemmas.List.Sorted.{IsNonDecreasingBy-from_all_adjacent}
use Rattle.px_terms.proofs.parts.are_in_order.Goals as goal

pub returns : goal.returns
returns c =
    let end = c.loop-i-test.false in
    (λ e. IsNonDecreasingBy-from_all_adjacent (λ x. x) c.args.xs.now (λ k d l. c.loop-i.invariant k d (omega arith)), λ e. refl)
