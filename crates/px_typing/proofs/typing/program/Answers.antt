use Rattle.std.proofs.Common.{◌∙◌, map, length, sym, ap, subst}
use Rattle.std.proofs.lemmas.List.{length-map}
use Rattle.px_syntax.specs.ParsedTree.{file_tree}
use Rattle.px_syntax.specs.ProgramTree.{procedure_tree}
use Rattle.px_typing.specs.Plans.{IsPlanOf}
use Rattle.px_typing.proofs.PlanLemmas.{kept_as_many}
use Rattle.px_typing.proofs.ProgramLemmas.{program_kept}
use Rattle.px_typing.proofs.typing.program.Goals as goal

pub procedures-requires-clause-flags : goal.procedures-requires-clause-flags
procedures-requires-clause-flags c =
    kept_as_many (map file_tree c.args.files) c.in_ok-plan.plan c.in_ok-apart.apart (subst (λ fs. IsPlanOf (map file_tree fs) c.in_ok-plan.plan) c.as_slice.ensures c.in_ok-plan.ensures)
    c.in_ok-apart.ensures

pub returns-clause-program : goal.returns-clause-program
returns-clause-program c =
    let files = map file_tree c.args.files in
    let planned = subst (λ fs. IsPlanOf (map file_tree fs) c.in_ok-plan.plan) c.as_slice.ensures c.in_ok-plan.ensures in
    c.planned_program.ensures.program files planned (c.in_ok-procedures.ensures files planned c.in_ok-apart.ensures)

pub returns-clause-many : goal.returns-clause-many
returns-clause-many c n e =
    let files = map file_tree c.args.files in
    let planned = subst (λ fs. IsPlanOf (map file_tree fs) c.in_ok-plan.plan) c.as_slice.ensures c.in_ok-plan.ensures in
    let h = c.planned_program.ensures.many n e in (
      h.0 ∙ sym (length-map c.in_ok-procedures.procedures procedure_tree) ∙ ap length (c.in_ok-procedures.ensures files planned c.in_ok-apart.ensures) ∙ program_kept files,
      h.1,
    )
