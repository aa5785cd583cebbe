use Rattle.std.proofs.Common.{◌≤◌, List, ℕ, subst}
use Rattle.px_drivers.specs.Crews.{in_all}
use Rattle.px_pooled.proofs.EndLemmas.{gave_receipts}
use Rattle.px_pooled.proofs.shared.with_workers.Goals as goal

pub returns-clause-given : goal.returns-clause-given
returns-clause-given g c =
    let end = c.in_ok-end.ensures.end in
    gave_receipts c.taken.result _ _ c.counted-receipts.result (in_all c.in_ok-end.end.receipts) _ _ c.taken.ensures.receipts end.rises
    (subst (λ (xs : List ℕ). c.counted-receipts.result ≤ in_all xs) c.as_slice.ensures c.counted-receipts.ensures)
