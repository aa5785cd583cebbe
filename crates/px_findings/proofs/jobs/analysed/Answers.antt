use Rattle.px_callgraph.specs.JobTree.{job_tree}
use Rattle.px_findings.proofs.CheckLemmas.{analysed_table}
use Rattle.px_findings.proofs.jobs.analysed.Goals as goal

pub returns-clause-analysed : goal.returns-clause-analysed
returns-clause-analysed g c = analysed_table (job_tree c.args.job.now) c.in_ok-table.field-0 c.in_ok-checked.checked c.in_ok-table.ensures.table c.in_ok-checked.ensures
