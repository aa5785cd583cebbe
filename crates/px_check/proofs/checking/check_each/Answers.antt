use Rattle.std.proofs.Common.{refl, sym, ap, ◌∙◌, ◌+◌}
use Rattle.std.specs.Vec.Iter.{into_iter_items, into_iter_len}
use Rattle.px_entry.specs.declared.derivations.Derivation.{Derivation}
use Rattle.px_callgraph.specs.JobTree.{job_tree}
use Rattle.px_check.proofs.EachLemmas.{left_len, none_left, stops_there, checked_there, ends}
use Rattle.px_check.proofs.checking.check_each.Goals as goal

pub returns-in-Err : goal.returns-in-Err
returns-in-Err c =
    let s = c.in-Some.ensures.steps in
    stops_there (job_tree c.args.job.now) c.args.entries c.args.derivations.now c.loop-entry.all (into_iter_items c.loop-entry.entry-iterator) (into_iter_items c.next.new.self) c.loop-entry.place c.in-Some.entry
    s.0 c.loop-entry.invariant.1 c.index-derivations-place.result c.index-derivations-place.is c.as_slice-own.result.now c.in-Err.fault _ (c.as_slice-own.ensures ∙ ap (λ (z : Derivation). z.steps) (sym c.index-derivations-place.is)) c.in-Err.ensures.answer c.fault_of.ensures

pub loop-entry-preserved : goal.loop-entry-preserved
loop-entry-preserved c =
    let s = c.in-Some.ensures.steps in (
      left_len (into_iter_len c.loop-entry.entry-iterator) (into_iter_len c.next.new.self) (into_iter_items c.loop-entry.entry-iterator) (into_iter_items c.next.new.self) c.in-Some.entry s.1 c.loop-entry.invariant.0 s.0,
      checked_there (job_tree c.args.job.now) c.args.entries c.args.derivations.now c.loop-entry.all (into_iter_items c.loop-entry.entry-iterator) (into_iter_items c.next.new.self) c.loop-entry.place c.in-Some.entry
          s.0 c.loop-entry.invariant.1 c.index-derivations-place.result c.index-derivations-place.is c.as_slice-own.result.now c.in-Ok-check_next.checked c.push.new.self (c.loop-entry.place + 1)
          (c.as_slice-own.ensures ∙ ap (λ (z : Derivation). z.steps) (sym c.index-derivations-place.is)) c.in-Ok-check_next.ensures.answer c.in-Ok-push.ensures.added refl,
      c.in-Ok-check_next.ensures.forks,
    )

pub returns : goal.returns
returns c =
    ends (job_tree c.args.job.now) c.args.entries (into_iter_items c.loop-entry.entry-iterator) c.args.derivations.now c.loop-entry.all c.loop-entry.place
    (none_left (into_iter_len c.loop-entry.entry-iterator) (into_iter_items c.loop-entry.entry-iterator) c.in-None.ensures.steps.0 c.loop-entry.invariant.0) c.loop-entry.invariant.1
