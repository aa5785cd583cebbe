use Rattle.std.proofs.Common.{ap, sym, ◌∙◌}
use Rattle.std.proofs.lemmas.Result.{IfOk-weaker}
use Rattle.px_callgraph.specs.declared.states.Way.TheVariants as way
use Rattle.px_callgraph.specs.Accesses.{listed_if}
use Rattle.px_callgraph.specs.Calls.{required_ways}
use Rattle.px_calls.proofs.RequiredLemmas.{ways_required, ways_on}
use Rattle.px_calls.proofs.names.matching_ways.Goals as goal

pub returns-in-Some : goal.returns-in-Some
returns-in-Some c =
    let m = c.args.matching.now in
    let s = c.args.state.now in
    let p = c.in-Some.required.now in
    IfOk-weaker c.required_ways.result _ _
    (λ r e j k.
    e ∙ ap (λ z. required_ways s z c.deref-in-Some.result.now p) c.deref.ensures.value ∙ ap (λ z. required_ways s m.substitution.items z p) c.deref-in-Some.ensures.value
    ∙ ways_required j s k m.entry.now m.substitution.items m.used.items m.met p (sym c.in-Some.ensures))
    c.required_ways.ensures

pub returns-in_ok-is_possible-in-None : goal.returns-in_ok-is_possible-in-None
returns-in_ok-is_possible-in-None c =
    let m = c.args.matching.now in
    IfOk-weaker c.on_if.result _ _
    (λ r e j k. e ∙ ap (λ z. listed_if z way.On) c.in_ok-is_possible-in-None.ensures ∙ ways_on j c.args.state.now k m.entry.now m.substitution.items m.used.items m.met (sym c.in-None.ensures))
    c.on_if.ensures
