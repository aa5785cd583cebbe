-- The typing of a function.
use Rattle.std.specs.Prelude.{◌≡◌, ℕ, false, List, [], Option, Some, None, is_some, option_map}
use Rattle.px_base.specs.declared.trace.Site.{Site}
use Rattle.px_base.specs.declared.trace.ProcId.{ProcId}
use Rattle.px_syntax.specs.declared.type_name.TypeName.{TypeName}
use Rattle.px_syntax.specs.declared.item.ResultType.{ResultType}
use Rattle.px_syntax.specs.declared.item.Parameter.{Parameter}
use Rattle.px_syntax.specs.StatementTree.{StatementTree, statements_of}
use Rattle.px_syntax.specs.TypedTree as T
use Rattle.px_syntax.specs.ProgramTree.{ProcedureTree}
use Rattle.px_bodies.specs.Types.{given, when, is_value}
use Rattle.px_bodies.specs.Environment.{Environment, result_of, value_type}
use Rattle.px_bodies.specs.Locals.{Locals, no_locals, typed_parameters}
use Rattle.px_bodies.specs.Statements.{PassedAll, typed_statements}

-- a result is an int, a pointer or void
abbrev pub allowed_result : Option TypeName → Option (Option TypeName)
allowed_result None = Some None
allowed_result (Some t) = when (is_value t) (Some t)

-- the body's outermost declarations stand in the scope of the parameters, and are counted on from them
abbrev pub before_body : Locals → Locals
before_body parameters = record parameters { types = [] }

abbrev pub procedure_of : Environment → ProcId → Site → Option TypeName → Locals → PassedAll → ProcedureTree
procedure_of env proc site returns parameters body = record {
  proc = proc;
  site = site;
  parameters = parameters.types;
  result = option_map (value_type env) returns;
  locals = body.after.types;
  body = T.block (T.statements_of body.trees);
}

-- the function as the typing rules type it, or none where one of the rules fails
abbrev pub typed_function : Environment → ProcId → Site → ResultType → List Parameter → List StatementTree → Option ProcedureTree
typed_function env proc site result parameters body =
    given (allowed_result (result_of result)) (λ returns. given (typed_parameters env no_locals parameters) (λ ls.
    given (typed_statements env returns false 0 (before_body ls) (statements_of body)) (λ all. Some (procedure_of env proc site returns ls all))))

-- whether a function keeps the rules, in one environment and another with the same structs and signatures
abbrev pub NumbersDontMatter : Type 0
NumbersDontMatter =
    (env : Environment) (types : TypeName → ℕ) (procs : List ℕ → ℕ) (proc other : ProcId) (site : Site) (result : ResultType) (parameters : List Parameter)
    (body : List StatementTree) →
    is_some (typed_function (record env { type_number = types; proc_number = procs }) other site result parameters body)
    ≡ is_some (typed_function env proc site result parameters body)
