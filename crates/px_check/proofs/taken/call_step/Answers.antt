use Rattle.std.proofs.Common.{sym, ◌∙◌}
use Rattle.px_callgraph.specs.JobTree.{job_tree}
use Rattle.px_walks.specs.Walks.{walk_of}
use Rattle.px_check.specs.Leading.{leads_at}
use Rattle.px_check.proofs.TurnLemmas.{call_takes, other_rule}
use Rattle.px_check.proofs.taken.call_step.Goals as goal

pub returns-then-is_call_rule : goal.returns-then-is_call_rule
returns-then-is_call_rule c =
    call_takes (job_tree c.args.job.now) (walk_of c.args.walk.now) c.requires c.args.step.now.rule c.args.step.now.choices (leads_at (walk_of c.take_call.new.walk)) c.take_call.result c.as_slice.result.now c.as_slice.ensures
    (sym c.is_call_rule.ensures ∙ c.if-is_call_rule.true) c.take_call.ensures

pub returns-else-is_call_rule : goal.returns-else-is_call_rule
returns-else-is_call_rule c = other_rule (job_tree c.args.job.now) (walk_of c.args.walk.now) c.requires c.args.step.now.rule c.args.step.now.choices (sym c.is_call_rule.ensures ∙ c.if-is_call_rule.false)
