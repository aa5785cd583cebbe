use Rattle.std.proofs.Common.{◌≡◌, ◌+◌, ◌-◌, ◌∙◌, subst, arith}
use Rattle.std.proofs.lemmas.Option.{same_Some}
use Rattle.px_sat.specs.Searches.{AreMarked, IsTracedFrom}
use Rattle.px_sat.proofs.MarkLemmas.{false_before}
use Rattle.px_sat.proofs.tracing.traced.Goals as goal

pub mark_all-requires-clause-falsified : goal.mark_all-requires-clause-falsified
mark_all-requires-clause-falsified c = λ m n.
    let e = same_Some _ _ (c.in-Some.ensures ∙ c.requires.falsified.stands) in
    false_before c.args.trail.now c.args.start m c.requires.distinct (c.requires.falsified.is_false m (rw e at n))

pub loop-place-init : goal.loop-place-init
loop-place-init c = record {
  later = (let n = c.len-place.ensures in let i = c.requires.start.inside in omega arith);
  inside = (let n = c.len-place.ensures in omega arith);
  tracing = c.in_ok-mark_all.ensures.tracing;
  conflict = λ clause s. subst (AreMarked c.args.trail.now c.mark_all.new.self.marked.items) (same_Some _ _ (c.in-Some.ensures ∙ s)) c.in_ok-mark_all.ensures.marks.marked;
  traced = λ p at clause from n. absurd (let l = c.len-place.ensures in omega arith);
}

pub follow-requires-clause-traced : goal.follow-requires-clause-traced
follow-requires-clause-traced c =
    let e : c.loop-place.place ≡ c.loop-place.place - 1 + 1 = (let t = c.loop-place-test.true in omega arith) in
    subst (IsTracedFrom c.args.clauses.now c.args.trail.now c.loop-place.trace.marked.items) e c.loop-place.invariant.traced

pub loop-place-preserved : goal.loop-place-preserved
loop-place-preserved c = record {
  later = (let t = c.loop-place-test.true in omega arith);
  inside = (let i = c.loop-place.invariant.inside in omega arith);
  tracing = c.in_ok-follow.ensures.tracing;
  conflict = λ clause s p m n k e. c.in_ok-follow.ensures.keeps p (c.loop-place.invariant.conflict clause s p m n k e);
  traced = c.in_ok-follow.ensures.traced;
}

pub returns-clause-traced : goal.returns-clause-traced
returns-clause-traced c = λ p at clause from. c.loop-place.invariant.traced p at clause (let t = c.loop-place-test.false in let l = c.loop-place.invariant.later in omega arith)
