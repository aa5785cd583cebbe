use Rattle.px_callgraph.specs.JobTree.{job_tree}
use Rattle.px_walks.proofs.ResultLemmas.{ok_any}
use Rattle.px_check.proofs.forks.take_fork.Goals as goal

pub returns-clause-fork : goal.returns-clause-fork
returns-clause-fork c = c.in-Some.ensures.fork (job_tree c.args.job.now) c.requires.forks

pub returns-clause-forks : goal.returns-clause-forks
returns-clause-forks c =
    let j = job_tree c.args.job.now in
    c.in_ok-put_copy.ensures j (c.in-Some.ensures.fork j c.requires.forks).0 (c.in-Some.ensures.forks j c.requires.forks)

pub returns-in_default-clause-forks : goal.returns-in_default-clause-forks
returns-in_default-clause-forks c =
    let j = job_tree c.args.job.now in
    ok_any c.first_fork.result (c.last_shared.ensures.forks j c.requires.forks)
