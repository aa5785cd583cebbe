use Rattle.std.proofs.lemmas.Result.{IfOk-at_ok, IfOk-weaker}
use Rattle.px_callgraph.specs.JobTree.{job_tree}
use Rattle.px_explore.specs.Visits.{IsDone}
use Rattle.px_explore.proofs.PointLemmas.{new_trail}
use Rattle.px_explore.proofs.SearchLemmas.{table_of}
use Rattle.px_explore.proofs.explore.analyse_and_count.Goals as goal

pub visit_all-visited-requires-clause-held : goal.visit_all-visited-requires-clause-held
visit_all-visited-requires-clause-held g c = new_trail c.new-trail.result _ c.new-trail.ensures.stacked c.requires.clear c.new-trail.ensures.vars c.new-trail.ensures.pure c.new-trail.ensures.atoms

pub returns-clause-table : goal.returns-clause-table
returns-clause-table g c =
    let j = job_tree c.args.job.now in
    let end = c.in_ok-end.end in
    let done = IfOk-at_ok (IsDone j c.visit_all-visited.new.found) c.in_ok-end.was c.visit_all-visited.ensures.done in
    IfOk-weaker c.finish.result _ _ (λ a h. table_of j c.visit_all-visited.new.found end a done h) c.finish.ensures
