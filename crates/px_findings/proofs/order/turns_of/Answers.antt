use Rattle.std.proofs.Common.{subst, sym, rules}
use Rattle.std.proofs.lemmas.List.Sorted.{IsNonDecreasingBy-from_sort_by_key}
use Rattle.px_findings.specs.declared.order.Turn.{Turn}
use Rattle.px_findings.specs.Orders.{AreRising}
use Rattle.px_findings.proofs.OrderLemmas.{by_ranks, rise_in_ranks, stable_from_sort_by_key}
use Rattle.px_findings.proofs.order.turns_of.Goals as goal

pub returns-clause-turns : goal.returns-clause-turns
returns-clause-turns c =
    by_ranks c.args.graph.now c.args.marked.now c.in_ok-order.order.items c.sort_by_key.new.self.items
    (subst (λ n. AreRising c.args.graph.now c.args.marked.now n c.in_ok-order.order.items) (sym c.requires.marks) c.in_ok-order.ensures)
    c.in_ok-sort_by_key.ensures.permutation
    (IsNonDecreasingBy-from_sort_by_key (λ (t : Turn). t.rank) c.sort_by_key.new.self.items c.in_ok-sort_by_key.ensures.sorted (λ a r q k. search rules))

pub returns-clause-rising : goal.returns-clause-rising
returns-clause-rising c =
    rise_in_ranks c.args.graph.now c.args.marked.now c.in_ok-order.order.items c.sort_by_key.new.self.items
    (subst (λ n. AreRising c.args.graph.now c.args.marked.now n c.in_ok-order.order.items) (sym c.requires.marks) c.in_ok-order.ensures)
    c.in_ok-sort_by_key.ensures.permutation
    (IsNonDecreasingBy-from_sort_by_key (λ (t : Turn). t.rank) c.sort_by_key.new.self.items c.in_ok-sort_by_key.ensures.sorted (λ a r q k. search rules))
    (stable_from_sort_by_key c.in_ok-order.order.items c.sort_by_key.new.self.items c.in_ok-sort_by_key.ensures.stable (λ a r q k. search rules))
