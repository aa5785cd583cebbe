use Rattle.std.proofs.Common.{◌≡◌, ◌↔◌, List, Bool, true, false, ◌+◌, get_or, length, subst, sym, ap, ◌∙◌}
use Rattle.std.proofs.lemmas.List.{length_push}
use Rattle.px_callgraph.specs.Working.{IsOnCycle}
use Rattle.px_callgraph.proofs.Ranking.{pushed_each}
use Rattle.px_callgraph.proofs.ranks.cycles_in.Goals as goal

pub loop-node-preserved : goal.loop-node-preserved
loop-node-preserved c = record {
  size = ap length c.in_ok-push.ensures.items ∙ length_push c.loop-node.cycles.items c.is_on_cycle.result ∙ ap (λ n. n + 1) c.loop-node.invariant.size;
  each = λ x l. subst (λ (bs : List Bool). (get_or bs x false ≡ true) ↔ IsOnCycle c.args.graph.now c.args.numbers.now x) (sym c.in_ok-push.ensures.items)
      (pushed_each (IsOnCycle c.args.graph.now c.args.numbers.now) c.loop-node.cycles.items c.is_on_cycle.result c.loop-node.node c.loop-node.invariant.size c.loop-node.invariant.each c.is_on_cycle.ensures x l);
}
