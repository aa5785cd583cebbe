use Rattle.std.proofs.Common.{sym, ◌∙◌, subst}
use Rattle.px_core.specs.BodyTree.{body_tree}
use Rattle.px_callgraph.specs.JobTree.{JobTree}
use Rattle.px_jobs.specs.Plans.{IsPlan, tables_at}
use Rattle.px_findings.proofs.Making.{analysed_by_job}
use Rattle.px_findings.proofs.jobs.part_of.Goals as goal

pub returns-clause-analysed : goal.returns-clause-analysed
returns-clause-analysed g c = λ w plan shared ready body.
    let job : JobTree = record {
      proc = c.args.proc;
      body = body_tree c.args.body;
      types = c.replace.result;
      callees = c.in_ok-callees.callees;
      limits = c.args.shared.now.limits;
      kinds = c.replace-2.result;
      ticket = 0;
    } in
    analysed_by_job w (tables_at c.args.parts.now) job c.in_ok-analysed.analysed.part c.in_ok-analysed.analysed.exploration (c.in_ok-callees.ensures w (subst (λ z. IsPlan w c.args.plan.now.graph z) (sym c.deref.ensures.value) plan) ready) body (c.replace.ensures.value ∙ shared.types) shared.limits
    (c.replace-2.ensures.value ∙ shared.kinds) c.in_ok-analysed.ensures.analysed
