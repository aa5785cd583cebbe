use Rattle.std.proofs.Common.{◌≡◌, false, Some, sym, ap, ◌∙◌, get_or, arith}
use Rattle.std.proofs.lemmas.Option.{none-some}
use Rattle.std.proofs.lemmas.Option.{same_Some}
use Rattle.std.specs.List.{slice_get}
use Rattle.std.proofs.lemmas.List.{get_or_default}
use Rattle.std.proofs.lemmas.Result.{on_ok_weaker}
use Rattle.px_sat.specs.Searches.{Marks}
use Rattle.px_sat.proofs.StepLemmas.{reason_of}
use Rattle.px_sat.proofs.MarkLemmas.{reason_before, traced_next, traced_unmarked, traced_taken}
use Rattle.px_sat.proofs.tracing.Trace.follow.Goals as goal

pub returns-then-not-index-clause-traced : goal.returns-then-not-index-clause-traced
returns-then-not-index-clause-traced c =
    let s = c.args.self.now in
    let u : get_or s.marked.items c.args.place false ≡ false =
    get_or_default s.marked.items c.args.place false c.index.result.now (let a = c.requires.tracing.all in let b = c.requires.inside in omega arith) ∙ sym c.index.ensures ∙ c.if-not-index.true in
    traced_unmarked c.args.clauses.now c.args.trail.now s.marked.items c.args.place u c.requires.traced

pub returns-in_default-clause-traced : goal.returns-in_default-clause-traced
returns-in_default-clause-traced c =
    traced_taken c.args.clauses.now c.args.trail.now c.args.self.now.marked.items c.args.place
    (λ at clause b s. let e = sym (reason_of c.args.trail.now c.args.place c.get.result c.get.ensures) ∙ b in absurd (c.in_default.not-Some at e)) c.requires.traced

pub returns-in_default-get-clause-traced : goal.returns-in_default-get-clause-traced
returns-in_default-get-clause-traced c =
    traced_taken c.args.clauses.now c.args.trail.now c.args.self.now.marked.items c.args.place
    (λ at clause b s.
    let e : Some c.in-Some.reason ≡ Some at = sym c.in-Some.is ∙ sym (reason_of c.args.trail.now c.args.place c.get.result c.get.ensures) ∙ b in
    none-some _ (c.in_default-get.ensures ∙ ap (slice_get c.args.clauses.now) (same_Some _ _ e) ∙ s)) c.requires.traced

pub mark_all-requires-clause-falsified : goal.mark_all-requires-clause-falsified
mark_all-requires-clause-falsified c =
    reason_before c.args.clauses.now c.args.trail.now c.args.start c.args.place c.in-Some.reason c.in-Some-get.clause.now
    c.requires.tracing.distinct c.requires.reasons c.requires.after c.requires.inside (reason_of c.args.trail.now c.args.place c.get.result c.get.ensures ∙ c.in-Some.is) (sym c.in-Some-get.ensures)

pub returns-clause-traced : goal.returns-clause-traced
returns-clause-traced c = on_ok_weaker c.mark_all.result (λ (h : Marks c.args.trail.now c.in-Some-get.clause.now c.args.self.now.marked.items c.mark_all.new.self.marked.items).
    traced_next c.args.clauses.now c.args.trail.now c.args.start c.args.place c.in-Some.reason c.in-Some-get.clause.now
    c.requires.tracing.distinct c.requires.reasons c.requires.after c.requires.inside (reason_of c.args.trail.now c.args.place c.get.result c.get.ensures ∙ c.in-Some.is) (sym c.in-Some-get.ensures)
    c.args.self.now.marked.items c.mark_all.new.self.marked.items h c.requires.traced) c.mark_all.ensures.marks
