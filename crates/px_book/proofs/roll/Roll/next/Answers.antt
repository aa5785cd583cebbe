use Rattle.px_callgraph.specs.CallGraphs.{IsGraphOf}
use Rattle.px_book.specs.Rolls.{RollParts, desk_of, statuses_of, IsNext}
use Rattle.px_book.proofs.NextLemmas.{next_is}
use Rattle.px_book.proofs.roll.Roll.next.Goals as goal
use Rattle.std.proofs.Common.{subst}

pub returns : goal.returns
returns c = λ bodies.
    let i = c.self.inside in
    subst (λ (z : RollParts). IsGraphOf bodies z.graph → IsNext (desk_of bodies z) (statuses_of z) c.args.who c.next_in.result) c.self.view_is
    (λ is. next_is i.graph i.callers i.out i.statuses.items i.ready i.held.items i.history.items c.self.invariant.0 bodies is c.args.who c.next_in.result c.next_in.ensures)
