use Rattle.std.proofs.Common.{◌∙◌, sym, ap, map, option_map, Some, false}
use Rattle.px_syntax.specs.StatementTree.{statement_tree, statements_of}
use Rattle.px_syntax.specs.TypedViews.{typed_statement}
use Rattle.px_syntax.proofs.TypedEquations.{typed-Block}
use Rattle.px_bodies.specs.Environment.{environment_of}
use Rattle.px_bodies.specs.Lent.{type_of}
use Rattle.px_bodies.specs.Locals.{typed_parameters}
use Rattle.px_bodies.specs.Statements.{typed_statements}
use Rattle.px_bodies.proofs.FunctionLemmas.{function-is}
use Rattle.px_bodies.proofs.function.procedure.Goals as goal

pub returns : goal.returns
returns c =
    let env = environment_of c.args.environment.now in
    let kind = option_map type_of c.in_ok-returns.returns in
    function-is env c.args.proc c.args.site c.args.returns.now c.args.parameters.now (map statement_tree c.args.body.now) kind c.declare_parameters.new.locals
    (record { trees = map typed_statement c.in_ok-statements.statements.items; after = c.statements.new.locals }) c.in_ok-returns.ensures
    (ap (λ ls. typed_parameters env ls c.args.parameters.now) (sym c.new-locals.ensures) ∙ c.in_ok-declare_parameters.ensures)
    (ap (λ ls. typed_statements env kind false 0 ls (statements_of (map statement_tree c.args.body.now))) (sym c.take_types-parameters.ensures.rest) ∙ c.in_ok-statements.ensures)
    ∙ (λ i. Some (record {
      proc = c.args.proc;
      site = c.args.site;
      parameters = (sym (c.from_vec.ensures ∙ c.take_types-parameters.ensures.types)) i;
      result = (sym c.value_type.ensures) i;
      locals = (sym (c.from_vec-2.ensures ∙ c.take_types.ensures.types)) i;
      body = (sym (typed-Block c.in_ok-statements.statements)) i;
    }))
