use Rattle.std.proofs.Common.{◌∙◌, ap, ap₂, nat_eq, get_or}
use Rattle.px_leak.proofs.GraphLemmas.{same_number}
use Rattle.px_leak.proofs.reach.Reach.has.Goals as goal

pub returns : goal.returns
returns c = λ x k l.
    let r = c.args.self.now in
    ap₂ nat_eq (c.number_at.ensures ∙ ap (λ xs. get_or xs c.args.variable 0) c.as_slice-numbers.ensures.value) (c.number_at-2.ensures ∙ ap (λ xs. get_or xs r.count 0) c.as_slice-numbers.ensures.value)
    ∙ same_number x r k c.args.variable l
