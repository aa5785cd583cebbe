use Rattle.std.proofs.Common.{◌∙◌, [], map, sym, ap}
use Rattle.std.proofs.lemmas.Result.{IfOk-weaker}
use Rattle.px_syntax.specs.ParsedTree.{file_tree}
use Rattle.px_bodies.specs.Environment.{environment_of}
use Rattle.px_typing.specs.ItemViews.{judged_of}
use Rattle.px_typing.specs.Programs.{environment_in, names_of, blocks_of}
use Rattle.px_typing.specs.Apart.{items_in}
use Rattle.px_typing.proofs.ProgramLemmas.{plan_made}
use Rattle.px_typing.proofs.typing.plan_of.Goals as goal

pub returns : goal.returns
returns c =
    let files = map file_tree c.args.files.now in
    let same = c.deref.ensures.value ∙ sym c.deref-2.ensures.value in
    IfOk-weaker c.numbered_plan.result _ _
    (λ p h. plan_made files p (environment_of c.in_ok-judged.field-0.environment) (environment_of c.in_ok-numbering.numbering.environment) (map judged_of c.deref-2.result.now)
    c.in_ok-numbering.numbering.types c.in_ok-numbering.numbering.names h
    (ap (map judged_of) c.deref-2.ensures.value ∙ c.in_ok-judged.ensures.judged) c.in_ok-judged.ensures.environment
    (c.in_ok-numbering.ensures.names ∙ ap (λ js. names_of (map judged_of js)) same)
    (c.in_ok-numbering.ensures.types ∙ ap (λ js. blocks_of (environment_of c.in_ok-judged.field-0.environment).signature (map judged_of js)) same)
    (c.in_ok-numbering.ensures.numbers (environment_in (items_in files) [] []) c.in_ok-judged.ensures.environment))
    c.numbered_plan.ensures
