use Rattle.std.proofs.Common.{[], refl, subst, sym}
use Rattle.px_callgraph.specs.Working.{Gains, AllRiseTo}
use Rattle.px_callgraph.proofs.Gaining.{gains_more, gains_nothing}
use Rattle.px_callgraph.proofs.Rising.{rises_at}
use Rattle.px_callgraph.proofs.edges.add_once.Goals as goal

pub returns-clause-gains : goal.returns-clause-gains
returns-clause-gains c =
    subst (Gains c.args.graph.now c.args.from _) (sym c.in_ok-add.ensures)
    (gains_more c.args.graph.now c.args.graph.now c.args.from [] c.args.to (gains_nothing c.args.graph.now c.args.from) c.requires.from)

pub returns-clause-rising : goal.returns-clause-rising
returns-clause-rising c =
    subst (AllRiseTo c.args.to) (sym c.in_ok-add.ensures)
    (rises_at c.args.to c.args.from c.args.graph.now c.targets.result.now c.targets.ensures.value c.requires.from c.requires.rising (c.if-is_last.ensures.other refl))
