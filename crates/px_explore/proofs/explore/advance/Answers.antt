use Rattle.std.proofs.Common.{arith, refl, ap, ◌∙◌}
use Rattle.std.proofs.lemmas.Result.{IfOk-weaker}
use Rattle.px_callgraph.specs.JobTree.{job_tree}
use Rattle.px_callgraph.specs.Alternatives.{act}
use Rattle.px_walks.specs.Walks.{walk_of, leads_of}
use Rattle.px_explore.proofs.BranchLemmas.{both_ok, same_steps, advanced, advanced_last}
use Rattle.px_explore.proofs.PointLemmas.{fork_places, rests_upon, ready, point_again}
use Rattle.px_explore.proofs.explore.advance.Goals as goal

pub go_back-requires-clause-places : goal.go_back-requires-clause-places
go_back-requires-clause-places g c = fork_places (job_tree c.args.job.now) c.args.point.fork c.requires.fork

pub go_back-requires-clause-held : goal.go_back-requires-clause-held
go_back-requires-clause-held g c = rests_upon c.args.trail.now _ c.args.points.now.items c.args.point c.requires.resting

pub returns-then-next-len-clause-ready : goal.returns-then-next-len-clause-ready
returns-then-next-len-clause-ready g c =
    let j = job_tree c.args.job.now in
    let f = c.args.point in
    let fs = c.args.points.now.items in
    IfOk-weaker c.take.result _ _ (λ from h. ready j c.args.trail.now _ c.go_back.new.self _ fs c.push.new.self.items f (walk_of c.in_ok-copy.copy) c.index-way.result.now (leads_of from) c.requires.resting
    c.go_back.ensures.at (λ items l o k. point_again fs c.push.new.self.items f _ items c.in_ok-push.ensures.items refl refl l o k) c.in_ok-copy.ensures h) c.take.ensures.leads

pub returns-then-next-len-clause-advanced : goal.returns-then-next-len-clause-advanced
returns-then-next-len-clause-advanced g c =
    let j = job_tree c.args.job.now in
    let f = c.args.point in
    let way = c.index-way.result.now in
    both_ok _ _ _ c.take.result (λ from h k. advanced j f _ c.args.points.now.items c.push.new.self.items c.take.new.steps way (leads_of from) c.requires.parameters c.requires.fork refl refl
    c.in_ok-push.ensures.items f.some c.index-way.ensures
    (same_steps _ (walk_of f.fork.walk) way _ f.fork.steps c.take.new.steps c.in_ok-copy.ensures c.in_ok-steps.ensures k)
    (h ∙ ap (λ z. act j z way) c.in_ok-copy.ensures)) c.take.ensures.leads c.take.ensures.steps

pub returns-clause-ready : goal.returns-clause-ready
returns-clause-ready g c =
    let j = job_tree c.args.job.now in
    let f = c.args.point in
    let fs = c.args.points.now.items in
    IfOk-weaker c.take-else-next-len.result _ _ (λ from h. ready j c.args.trail.now _ c.go_back.new.self _ fs fs f (walk_of f.fork.walk) c.index-way.result.now (leads_of from) c.requires.resting c.go_back.ensures.at
    (λ items l o k. k) refl h) c.take-else-next-len.ensures.leads

pub returns-clause-advanced : goal.returns-clause-advanced
returns-clause-advanced g c =
    let j = job_tree c.args.job.now in
    let f = c.args.point in
    let points = c.args.points.now.items in
    both_ok _ _ _ c.take-else-next-len.result (λ from h k. advanced_last j f points points c.take-else-next-len.new.steps c.index-way.result.now (leads_of from) c.requires.parameters c.requires.fork refl
    (omega (arith, c.len.ensures, c.if-next-len.false, f.fork.ways.ok.0)) f.some c.index-way.ensures k h) c.take-else-next-len.ensures.leads c.take-else-next-len.ensures.steps
