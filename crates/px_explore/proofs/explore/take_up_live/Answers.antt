use Rattle.std.proofs.Common.{refl, ◌+◌}
use Rattle.px_callgraph.specs.JobTree.{job_tree}
use Rattle.px_explore.specs.declared.results.SearchResult.{SearchResult}
use Rattle.px_explore.proofs.VisitLemmas.{counts_nothing, taken_open}
use Rattle.px_explore.proofs.explore.take_up_live.Goals as goal

pub returns-in_ok-open-in-Open : goal.returns-in_ok-open-in-Open
returns-in_ok-open-in-Open c =
    let j = job_tree c.args.job.now in
    let old = c.args.found.now in
    let new : SearchResult = record { entries = old.entries; derivations = old.derivations; drops = old.drops; live = old.live + 1; ended = old.ended } in record {
      taken = taken_open j c.args.weighed c.args.steps.now c.args.held c.in-Open.fork old new c.args.points.now.items c.open.new.points.items c.in-Open.is c.in_ok-open-in-Open.ensures
          (counts_nothing j old new c.args.steps.now c.requires.room refl refl refl refl refl);
    }
