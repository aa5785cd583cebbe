use Rattle.std.proofs.Common.{subst, sym, arith}
use Rattle.px_leak.specs.Pointers.{GainsBack}
use Rattle.px_leak.proofs.PointerLemmas.{one_back}
use Rattle.px_leak.proofs.pointers.add_back.Goals as goal

pub loop-variable-preserved : goal.loop-variable-preserved
loop-variable-preserved c =
    let s = c.loop-variable.invariant.size in
    subst (GainsBack _ c.args.count c.args.graph.now) (sym c.in_ok-add.ensures)
    (one_back c.args.graph.now c.loop-variable.graph c.loop-variable.variable c.args.count c.loop-variable.invariant (let l = c.loop-variable-test.true in let r = c.requires in omega arith))
