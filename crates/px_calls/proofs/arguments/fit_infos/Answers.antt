use Rattle.px_calls.specs.Arguments.{fits_infos}
use Rattle.px_calls.proofs.ArgumentLemmas.{too_few}
use Rattle.px_calls.proofs.arguments.fit_infos.Goals as goal

pub returns-then-i-infos : goal.returns-then-i-infos
returns-then-i-infos c =
    let a = c.args in
    too_few a.vars.now a.infos.now a.arguments.now c.loop-i.i (fits_infos a.vars.now a.infos.now a.arguments.now) c.if-i-infos.true c.loop-i-test.true c.loop-i.invariant
