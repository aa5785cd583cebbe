-- A function from its parts.
use Rattle.std.proofs.Common.{◌≡◌, ◌∙◌, ap, false, List, Option, Some}
use Rattle.px_base.specs.declared.trace.Site.{Site}
use Rattle.px_base.specs.declared.trace.ProcId.{ProcId}
use Rattle.px_syntax.specs.declared.type_name.TypeName.{TypeName}
use Rattle.px_syntax.specs.declared.item.ResultType.{ResultType}
use Rattle.px_syntax.specs.declared.item.Parameter.{Parameter}
use Rattle.px_syntax.specs.StatementTree.{StatementTree, statements_of}
use Rattle.px_bodies.specs.Types.{given}
use Rattle.px_bodies.specs.Environment.{Environment, result_of}
use Rattle.px_bodies.specs.Locals.{Locals, no_locals, typed_parameters}
use Rattle.px_bodies.specs.Statements.{PassedAll, typed_statements}
use Rattle.px_bodies.specs.Functions.{allowed_result, before_body, procedure_of, typed_function}

pub function-is : (env : Environment) (proc : ProcId) (site : Site) (result : ResultType) (parameters : List Parameter) (body : List StatementTree) (returns : Option TypeName) (ls : Locals) (all : PassedAll)
    → allowed_result (result_of result) ≡ Some returns → typed_parameters env no_locals parameters ≡ Some ls → typed_statements env returns false 0 (before_body ls) (statements_of body) ≡ Some all
    → typed_function env proc site result parameters body ≡ Some (procedure_of env proc site returns ls all)
function-is env proc site result parameters body returns ls all r p s =
    ap (λ o. given o (λ returns. given (typed_parameters env no_locals parameters) (λ ls.
    given (typed_statements env returns false 0 (before_body ls) (statements_of body)) (λ all. Some (procedure_of env proc site returns ls all))))) r
    ∙ ap (λ o. given o (λ ls. given (typed_statements env returns false 0 (before_body ls) (statements_of body)) (λ all. Some (procedure_of env proc site returns ls all)))) p
    ∙ ap (λ o. given o (λ all. Some (procedure_of env proc site returns ls all))) s
