use Rattle.std.proofs.lemmas.Result.{IfOk-weaker}
use Rattle.px_callgraph.specs.Calls.{is_possible, stand_all}
use Rattle.px_calls.proofs.ListedLemmas.{on_asked, on_alone}
use Rattle.px_calls.proofs.names.is_on.Goals as goal

pub returns-in-On : goal.returns-in-On
returns-in-On c =
    let m = c.args.matching.now in
    let s = c.args.state.now in
    IfOk-weaker c.is_possible.result _ _
    (λ r e. on_asked (is_possible m.entry.now (stand_all m.entry.now m.substitution.items s) s) r c.args.way c.in-On.is e)
    c.is_possible.ensures

pub returns-in_default : goal.returns-in_default
returns-in_default c = on_alone _ c.args.way c.in_default.not-On
