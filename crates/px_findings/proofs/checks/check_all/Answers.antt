use Rattle.px_callgraph.specs.JobTree.{job_tree}
use Rattle.px_findings.proofs.CheckLemmas.{as_many, never_refused, all_checked}
use Rattle.px_findings.proofs.checks.check_all.Goals as goal

pub check_each-requires : goal.check_each-requires
check_each-requires c = as_many (job_tree c.args.job.now) c.args.entries c.args.derivations.now c.requires.derived

pub returns-in-Ok : goal.returns-in-Ok
returns-in-Ok c = all_checked (job_tree c.args.job.now) c.args.entries c.args.derivations.now c.in-Ok.all c.in-Ok.ensures

pub unreachable-requires : goal.unreachable-requires
unreachable-requires c =
    let f = c.in-Err-Refused in
    never_refused (job_tree c.args.job.now) c.args.entries c.args.derivations.now c.check_each.result f.field-0 f.field-0-0 f.field-0-1 f.field-0-2 c.requires.derived c.check_each.ensures f.is f.field-0-is
