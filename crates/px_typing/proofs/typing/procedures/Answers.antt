use Rattle.std.proofs.Common.{◌≡◌, map}
use Rattle.std.proofs.lemmas.Result.{IfOk-weaker}
use Rattle.px_syntax.specs.StatementTree.{statement_tree}
use Rattle.px_syntax.specs.ParsedTree.{parsed_tree}
use Rattle.px_syntax.specs.ProgramTree.{procedure_tree}
use Rattle.px_bodies.specs.Environment.{environment_of}
use Rattle.px_typing.specs.Apart.{wholes, made_in}
use Rattle.px_typing.specs.Plans.{procedures_of}
use Rattle.px_typing.proofs.PlanLemmas.{procedures_given}
use Rattle.px_typing.proofs.typing.procedures.Goals as goal

pub returns : goal.returns
returns c files h k =
    let env = environment_of c.in_ok-environment.environment in
    IfOk-weaker c.kept_procedures.result
    (λ all. map procedure_tree all ≡ made_in env (wholes (map parsed_tree c.deref-3.result.now) (map (map statement_tree) c.deref_mut.result.now)) c.deref-4.result.now)
    (λ all. map procedure_tree all ≡ procedures_of files)
    (λ all e. procedures_given files c.args.plan.now c.args.apart h k env c.deref-3.result.now c.deref.result.now c.deref_mut.result.now c.deref-4.result.now c.deref-2.result.now c.as_slice.result.now
    c.deref-3.ensures.value c.deref.ensures.value c.deref_mut.ensures.value c.deref-4.ensures.value c.deref-2.ensures.value c.as_slice.ensures c.in_ok-environment.ensures (map procedure_tree all) e)
    c.kept_procedures.ensures
