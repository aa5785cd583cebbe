use Rattle.std.proofs.Common.{◌≡◌, ◌+◌, false, true, refl, sym, ◌∙◌, subst}
use Rattle.px_callgraph.specs.JobTree.{job_tree}
use Rattle.px_callgraph.specs.Derivations.{RunsTo}
use Rattle.px_check.specs.Courses.{course_of}
use Rattle.px_check.proofs.EndLemmas.{other_entry, behind}
use Rattle.px_check.proofs.ends.first_fault.Goals as goal

pub returns-then-is_end_of : goal.returns-then-is_end_of
returns-then-is_end_of c =
    behind (job_tree c.args.job.now) c.in-ComesTo.state c.in-ComesTo.exit c.in-ComesTo.given c.args.entry.now c.args.steps.now c.in-ComesTo.place (c.in-ComesTo.place + 1) c.after_end.result refl
    (subst (λ z. RunsTo (job_tree c.args.job.now) c.args.steps.now (course_of c.args.steps.now z)) c.in-ComesTo.is c.requires.runs)
    (c.is_end_of.ensures.0 c.if-is_end_of.true) c.after_end.ensures

pub returns : goal.returns
returns c =
    other_entry (job_tree c.args.job.now) c.in-ComesTo.state c.in-ComesTo.exit c.in-ComesTo.given c.args.entry.now c.args.steps.now c.in-ComesTo.place
    (subst (λ z. RunsTo (job_tree c.args.job.now) c.args.steps.now (course_of c.args.steps.now z)) c.in-ComesTo.is c.requires.runs)
    (λ h. let n : false ≡ true = sym c.if-is_end_of.false ∙ c.is_end_of.ensures.1 h in cc)
