use Rattle.std.proofs.Common.{ap, sym, ◌∙◌}
use Rattle.std.proofs.lemmas.Result.{IfOk-weaker}
use Rattle.px_callgraph.specs.Calls.{required_ways}
use Rattle.px_ways.specs.Listed.{lists}
use Rattle.px_calls.proofs.RequiredLemmas.{ways_required, ways_on}
use Rattle.px_calls.proofs.names.is_matching_way.Goals as goal

pub returns-in-Some : goal.returns-in-Some
returns-in-Some c = λ j k.
    let m = c.args.matching.now in
    let s = c.args.state.now in
    let p = c.in-Some.required.now in
    c.is_required_way.ensures
    ∙ ap (λ z. lists z c.args.way)
    (ap (λ z. required_ways s z c.deref-in-Some.result.now p) c.deref.ensures.value ∙ ap (λ z. required_ways s m.substitution.items z p) c.deref-in-Some.ensures.value
    ∙ ways_required j s k m.entry.now m.substitution.items m.used.items m.met p (sym c.in-Some.ensures))

pub returns-in-None : goal.returns-in-None
returns-in-None c =
    let m = c.args.matching.now in
    IfOk-weaker c.is_on.result _ _ (λ r e j k. e ∙ ap (λ z. lists z c.args.way) (ways_on j c.args.state.now k m.entry.now m.substitution.items m.used.items m.met (sym c.in-None.ensures))) c.is_on.ensures
