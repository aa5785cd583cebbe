use Rattle.std.proofs.Common.{◌<◌, sym, ◌∙◌, ap, subst}
use Rattle.px_jobs.specs.Plans.{is_among}
use Rattle.px_findings.specs.Orders.{AreTurns}
use Rattle.px_keep.proofs.OrderLemmas.{is_order, ranked}
use Rattle.px_keep.proofs.ordering.order_of.Goals as goal

pub returns-clause-ordered : goal.returns-clause-ordered
returns-clause-ordered c w kept out is =
    is_order w c.args.graph.now is (c.requires ∙ sym kept) c.in_ok-large.large.items (c.in_ok-large.ensures.many ∙ sym kept)
    (λ n l. c.in_ok-large.ensures.marks n (subst (λ k. n < k) kept l) ∙ ap (is_among n) (sym out)) c.in_ok-order.order.items (subst (λ m. AreTurns c.args.graph.now m c.in_ok-order.order.items) c.deref.ensures.value c.in_ok-order.ensures.turns)

pub returns-clause-ranked : goal.returns-clause-ranked
returns-clause-ranked c w kept out is =
    ranked w c.args.graph.now is (c.requires ∙ sym kept) c.in_ok-large.large.items (c.in_ok-large.ensures.many ∙ sym kept)
    (λ n l. c.in_ok-large.ensures.marks n (subst (λ k. n < k) kept l) ∙ ap (is_among n) (sym out)) c.in_ok-order.order.items (subst (λ m. AreTurns c.args.graph.now m c.in_ok-order.order.items) c.deref.ensures.value c.in_ok-order.ensures.turns) c.in_ok-order.ensures.rising
