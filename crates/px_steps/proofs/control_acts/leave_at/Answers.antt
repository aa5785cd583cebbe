use Rattle.std.proofs.Common.{[], refl, rules}
use Rattle.px_callgraph.specs.States.{begun, marked, goes}
use Rattle.px_callgraph.specs.Commands.{leave_loop}
use Rattle.px_base.specs.declared.trace.MarkKind.TheVariants as kind
use Rattle.px_steps.proofs.PathLimitLemmas.{next_led, cut_led, marking, marked_grows}
use Rattle.px_steps.proofs.control_acts.leave_at.Goals as goal

pub returns-in-Some : goal.returns-in-Some
returns-in-Some c =
    let s = c.args.state.now in
    let u = leave_loop (marked kind.Done c.args.site (begun s)) in
    cut_led c.cut.result s marking u [] c.in-Some.kind c.in-Some.ensures.first (marked_grows s u _ [] goes refl refl refl refl refl refl) c.cut.ensures

pub returns-in_ok-mark-in-None : goal.returns-in_ok-mark-in-None
returns-in_ok-mark-in-None c =
    let s = c.args.state.now in
    let u = leave_loop (marked kind.Done c.args.site (begun s)) in
    next_led s marking c.close_loop.new.state u [] (search rules) c.in-None.ensures.first (marked_grows s u _ [] goes refl refl refl refl refl refl)
