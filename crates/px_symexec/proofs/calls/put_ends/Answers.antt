use Rattle.std.proofs.Common.{refl, map}
use Rattle.px_callgraph.specs.JobTree.{job_tree}
use Rattle.px_walks.specs.Walks.{leads_of}
use Rattle.px_symexec.proofs.StackLemmas.{fewer, goes_on, pushed}
use Rattle.px_symexec.proofs.calls.put_ends.Goals as goal

pub loop-here-smaller : goal.loop-here-smaller
loop-here-smaller c =
    let here = c.in-Some.here in
    let front = map leads_of c.pop.new.self.items in
    fewer (job_tree c.args.job.now) (map leads_of c.loop-here.stack.items) front (map leads_of c.take_up.new.stack.items) (leads_of here)
    (pushed c.pop.new.self.items c.loop-here.stack.items here front (leads_of here) c.in-Some.ensures.items refl refl) c.in_ok-take_up.ensures.stack

pub loop-here-preserved : goal.loop-here-preserved
loop-here-preserved c =
    let here = c.in-Some.here in
    let front = map leads_of c.pop.new.self.items in
    goes_on (job_tree c.args.job.now) (map leads_of c.loop-here.stack.items) front (map leads_of c.take_up.new.stack.items) (leads_of here) c.loop-here.found.items c.take_up.new.found.items _
    (pushed c.pop.new.self.items c.loop-here.stack.items here front (leads_of here) c.in-Some.ensures.items refl refl) c.in_ok-take_up.ensures.stack c.in_ok-take_up.ensures.found c.loop-here.invariant
