use Rattle.std.proofs.Common.{refl, false}
use Rattle.px_calls.proofs.LeaveLemmas.{none_left, next_left}
use Rattle.px_calls.proofs.leaving.leave_all.Goals as goal

pub loop-atom-init : goal.loop-atom-init
loop-atom-init c = none_left c.args.vars.now c.args.substitution.now (record { found = c.new.result; made = c.new-2.result; long = false }) refl c.new.ensures.items c.new-2.ensures

pub loop-atom-preserved : goal.loop-atom-preserved
loop-atom-preserved c =
    let a = c.args in
    next_left a.vars.now a.substitution.now a.atoms.now c.loop-atom.atom-index c.atom-item.result c.loop-atom.left c.put_left.new.left c.loop-atom-test.true c.atom-item.is c.in_ok-put_left.ensures c.loop-atom.invariant
