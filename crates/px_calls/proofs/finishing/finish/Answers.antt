use Rattle.std.proofs.Common.{ap, ◌∙◌}
use Rattle.std.proofs.lemmas.Result.{IfOk-weaker}
use Rattle.px_entry.specs.declared.entries.Exit.TheVariants as exits
use Rattle.px_callgraph.specs.Alternatives.{leads, at}
use Rattle.px_calls.specs.Calls.{calling_of}
use Rattle.px_calls.proofs.FinishLemmas.{finish_as}
use Rattle.px_calls.proofs.finishing.finish.Goals as goal

pub returns-in-Ok-clause-leads : goal.returns-in-Ok-clause-leads
returns-in-Ok-clause-leads c =
    let a = c.args in
    IfOk-weaker c.return_from.result _ _
    (λ r q k.
    q k ∙ ap (λ z. leads a.state.now z (at k))
    (finish_as (calling_of a.calling) a.entry.now a.progress.substitution.items c.put_all.new.substitution.items c.deref-in-Ok.result.now a.progress.used.items c.deref-in-Ok-2.result.now a.state.now exits.Ok c.len.result
    c.as_slice.result.now c.in-Ok.is c.deref-in-Ok.ensures.value c.in_ok-put_all.ensures c.len.ensures c.as_slice.ensures c.deref-in-Ok-2.ensures.value))
    c.return_from.ensures.leads

pub returns-clause-leads : goal.returns-clause-leads
returns-clause-leads c =
    let a = c.args in
    IfOk-weaker c.fail_by.result _ _
    (λ r q k.
    q (calling_of a.calling) c.deref.result.now k c.in_ok-said.ensures ∙ ap (λ z. leads a.state.now z (at k))
    (finish_as (calling_of a.calling) a.entry.now a.progress.substitution.items c.put_all.new.substitution.items c.deref.result.now a.progress.used.items c.deref-in-Error.result.now a.state.now (exits.Error c.in-Error.kind c.in-Error.site) c.len.result
    c.as_slice.result.now c.in-Error.is c.deref.ensures.value c.in_ok-put_all.ensures c.len.ensures c.as_slice.ensures c.deref-in-Error.ensures.value))
    c.fail_by.ensures.leads
