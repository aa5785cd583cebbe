use Rattle.px_explore.proofs.ReachLemmas.{vars_next, vars_put}
use Rattle.px_explore.proofs.trail.Trail.push_vars.Goals as goal

pub push_var-requires : goal.push_var-requires
push_var-requires c =
    let (done, s, d) = c.loop-n.invariant in vars_next c.args.self.now c.loop-n.self c.args.vars.now c.args.from c.loop-n.n done c.requires s d c.loop-n-test.true

pub loop-n-preserved : goal.loop-n-preserved
loop-n-preserved c =
    vars_put c.args.self.now c.loop-n.self c.push_var.new.self c.args.vars.now c.args.from c.loop-n.n _ c.loop-n-test.true c.loop-n.invariant c.in_ok-push_var.ensures.pushed
