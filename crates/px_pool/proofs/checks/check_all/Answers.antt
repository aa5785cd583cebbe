use Rattle.std.proofs.Common.{refl, ap, ◌∙◌, ◌+◌, Err}
use Rattle.std.proofs.lemmas.Result.{err_from_is_err_and}
use Rattle.std.specs.Vec.Iter.{into_iter_items, into_iter_len}
use Rattle.px_callgraph.specs.JobTree.{job_tree}
use Rattle.px_pool.specs.Checks.{AreRefusals}
use Rattle.px_pool.proofs.ReplyLemmas.{of_err}
use Rattle.px_check.proofs.EachLemmas.{left_len}
use Rattle.px_pool.proofs.CheckLemmas.{one_more, stops}
use Rattle.px_pool.proofs.checks.check_all.Goals as goal

pub returns-in_err-checked-clause-refused : goal.returns-in_err-checked-clause-refused
returns-in_err-checked-clause-refused c =
    let p = err_from_is_err_and c.from_residual.result c.from_residual.ensures.1 in
    let s = c.in-Some.ensures.steps in
    let e = c.in_err-checked.field-0.0 in
    of_err c.from_residual.result e (λ w. AreRefusals (job_tree c.args.job.now) c.args.entries c.args.derivations.now w) (p.1 ∙ ap (λ z. Err z) p.2)
    (stops (job_tree c.args.job.now) c.args.entries c.args.derivations.now c.loop-entry.all (into_iter_items c.loop-entry.entry-iterator) (into_iter_items c.next.new.self) c.loop-entry.place c.in-Some.entry
    s.0 c.loop-entry.invariant.1 c.index-derivations-place.result e c.index-derivations-place.is (c.in_err-checked.ensures.refused e refl))

pub loop-entry-preserved : goal.loop-entry-preserved
loop-entry-preserved c =
    let s = c.in-Some.ensures.steps in (
      left_len (into_iter_len c.loop-entry.entry-iterator) (into_iter_len c.next.new.self) (into_iter_items c.loop-entry.entry-iterator) (into_iter_items c.next.new.self) c.in-Some.entry s.1 c.loop-entry.invariant.0 s.0,
      one_more (job_tree c.args.job.now) c.args.entries c.args.derivations.now c.loop-entry.all (into_iter_items c.loop-entry.entry-iterator) (into_iter_items c.next.new.self) c.loop-entry.place c.in-Some.entry
          s.0 c.loop-entry.invariant.1 c.index-derivations-place.result c.in_ok-checked.checked c.push.new.self (c.loop-entry.place + 1) c.index-derivations-place.is
          c.in_ok-checked.ensures.entry c.in_ok-checked.ensures.job c.in_ok-checked.ensures.derived c.in-Ok.ensures.added refl,
    )
