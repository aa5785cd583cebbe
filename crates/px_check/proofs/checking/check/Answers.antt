use Rattle.std.proofs.Common.{subst, sym}
use Rattle.std.specs.Prelude.{All}
use Rattle.std.proofs.lemmas.List.Elements.{All-nil}
use Rattle.px_callgraph.specs.JobTree.{job_tree}
use Rattle.px_check.specs.Follows.{IsForkOf}
use Rattle.px_check.specs.Answers.{IsAnswer}
use Rattle.px_check.proofs.checking.check.Goals as goal

pub check_next-requires-clause-forks : goal.check_next-requires-clause-forks
check_next-requires-clause-forks c =
    let j = job_tree c.args.job.now in
    subst (All (IsForkOf j)) (sym c.new-forks.ensures.items) (All-nil (IsForkOf j))

pub returns : goal.returns
returns c = subst (λ ss. IsAnswer (job_tree c.args.job.now) c.args.entry ss c.check_next.result) c.as_slice-steps.ensures c.check_next.ensures.answer
