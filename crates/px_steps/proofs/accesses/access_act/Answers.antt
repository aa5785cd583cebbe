use Rattle.std.proofs.Common.{ap, ◌∙◌}
use Rattle.std.proofs.lemmas.Result.{IfOk-weaker}
use Rattle.px_callgraph.specs.States.{begun}
use Rattle.px_callgraph.specs.Accesses.{access_done}
use Rattle.px_steps.specs.Accessing.{access_of, access_growth}
use Rattle.px_match.specs.PathLimits.{passes_grown}
use Rattle.px_steps.proofs.AccessLimits.{cut_within, led_within, access_within, marks_once}
use Rattle.px_steps.proofs.accesses.access_act.Goals as goal

pub returns-in-Some : goal.returns-in-Some
returns-in-Some c =
    let a = c.args in
    let g = access_growth a.types.now a.state.now a.access.block a.place a.way in
    IfOk-weaker c.cut.result _ _
    (λ r e. e ∙ cut_within a.state.now g (access_done a.types.now a.access.block (access_of a.access) a.place a.way (begun a.state.now)) c.in-Some.kind
    (c.in-Some.ensures.first ∙ ap (passes_grown a.state.now) c.access_growth-growth.ensures)
    (access_within a.types.now a.access.block (access_of a.access) (marks_once a.access.site a.access.effect) a.state.now a.place a.way))
    c.cut.ensures

pub returns-in-None : goal.returns-in-None
returns-in-None c =
    let a = c.args in
    let g = access_growth a.types.now a.state.now a.access.block a.place a.way in
    IfOk-weaker c.reach.result _ _
    (λ r e. e ∙ led_within a.state.now g (access_done a.types.now a.access.block (access_of a.access) a.place a.way (begun a.state.now))
    (c.in-None.ensures.first ∙ ap (passes_grown a.state.now) c.access_growth-growth.ensures)
    (access_within a.types.now a.access.block (access_of a.access) (marks_once a.access.site a.access.effect) a.state.now a.place a.way))
    c.reach.ensures
