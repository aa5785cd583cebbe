use Rattle.std.proofs.Common.{sym, ◌∙◌}
use Rattle.std.proofs.lemmas.Result.{IfOk-weaker}
use Rattle.px_callgraph.specs.JobTree.{job_tree}
use Rattle.px_walks.specs.Walks.{leads_of}
use Rattle.px_symexec.specs.Prefixes.{stop_of}
use Rattle.px_explore.specs.Paths.{paths}
use Rattle.px_explore.specs.Stops.{prefix_of}
use Rattle.px_explore.proofs.PointLemmas.{behind_from, rests, ready_kept, on_taken, weighs_thinly, weighed_items, still_kept}
use Rattle.px_explore.proofs.VisitLemmas.{visited, open_fork}
use Rattle.px_explore.proofs.explore.visit.Goals as goal

pub returns-in_err-stop-clause-kept : goal.returns-in_err-stop-clause-kept
returns-in_err-stop-clause-kept g c = ready_kept c.args.trail.now _ (leads_of c.args.from) c.args.points.now.items c.requires.ready

pub weigh-requires-clause-behind : goal.weigh-requires-clause-behind
weigh-requires-clause-behind g c =
    behind_from c.args.trail.now _ (leads_of c.args.from) c.args.points.now.items (stop_of (prefix_of c.in_ok-stop.stop)) c.requires.ready c.in_ok-stop.ensures.after

pub thin-requires-clause-held : goal.thin-requires-clause-held
thin-requires-clause-held g c =
    weighed_items c.args.trail.now _ c.weigh.new.trail _ (leads_of c.args.from) c.args.points.now.items (stop_of (prefix_of c.in_ok-stop.stop)) c.in_ok-weighed.weighed c.requires.ready c.in_ok-stop.ensures.after
    c.in_ok-weighed.ensures.reached

pub thin-requires-clause-fork : goal.thin-requires-clause-fork
thin-requires-clause-fork g c =
    let j = job_tree c.args.job.now in (j, c.requires.parameters, open_fork j c.in_ok-stop.stop c.in_ok-weighed.weighed c.in_ok-stop.ensures.stop.forks c.in_ok-weighed.ensures.answer)

pub returns-in_err-thinned-clause-kept : goal.returns-in_err-thinned-clause-kept
returns-in_err-thinned-clause-kept g c = still_kept c.weigh.new.trail _ c.thin.new.trail _ c.in_ok-weighed.ensures.kept c.in_err-thinned.ensures.on

pub returns-clause-resting : goal.returns-clause-resting
returns-clause-resting g c =
    let j = job_tree c.args.job.now in
    let s = stop_of (prefix_of c.in_ok-stop.stop) in
    let thinned = c.in_ok-thinned.ensures.thinned (sym (c.in_ok-weighed.ensures.kinds ∙ c.requires.kinds)) (open_fork j c.in_ok-stop.stop c.in_ok-weighed.weighed c.in_ok-stop.ensures.stop.forks c.in_ok-weighed.ensures.answer) in
    on_taken c.take_up.result _ (λ end h. rests j c.in_ok-thinned.thinned c.run_on.new.steps c.len.result c.args.found.now _ c.args.points.now.items _ end c.args.trail.now _ c.thin.new.trail _ (leads_of c.args.from) s
    c.requires.ready c.in_ok-stop.ensures.after
    (weighs_thinly j c.args.trail.now _ c.weigh.new.trail _ c.thin.new.trail _ s c.in_ok-weighed.weighed c.in_ok-thinned.thinned thinned c.in_ok-thinned.ensures.on c.in_ok-weighed.ensures.reached)
    (λ items k. c.len.ensures items k.stacked) h) c.take_up.ensures.taken

pub returns-clause-kept : goal.returns-clause-kept
returns-clause-kept g c = still_kept c.weigh.new.trail _ c.thin.new.trail _ c.in_ok-weighed.ensures.kept c.in_ok-thinned.ensures.on

pub returns-clause-visited : goal.returns-clause-visited
returns-clause-visited g c =
    let j = job_tree c.args.job.now in
    let thinned = c.in_ok-thinned.ensures.thinned (sym (c.in_ok-weighed.ensures.kinds ∙ c.requires.kinds)) (open_fork j c.in_ok-stop.stop c.in_ok-weighed.weighed c.in_ok-stop.ensures.stop.forks c.in_ok-weighed.ensures.answer) in
    IfOk-weaker c.take_up.result _ _ (λ end h. visited j (paths j c.args.steps.now (leads_of c.args.from)) c.run_on.new.steps c.in_ok-stop.stop c.in_ok-weighed.weighed c.in_ok-thinned.thinned c.len.result c.args.found.now _
    c.args.points.now.items _ end c.in_ok-stop.ensures.stop c.in_ok-weighed.ensures.answer thinned h) c.take_up.ensures.taken
