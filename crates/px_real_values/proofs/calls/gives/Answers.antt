use Rattle.std.proofs.Common.{◌∙◌, [], ◌∷◌, map, sym, ap, codes}
use Rattle.px_terms.specs.declared.types.ValueType.TheVariants.{Int}
use Rattle.px_syntax.specs.TypedTree as T
use Rattle.px_syntax.specs.TypedViews.{typed_expression, typed_argument}
use Rattle.px_syntax.proofs.TypedEquations.{typed-Call}
use Rattle.px_real_values.specs.Operands.{of_type}
use Rattle.px_real_values.specs.Operators.{outside_of}
use Rattle.px_real_values.specs.Calls.{gives}
use Rattle.px_real_values.specs.Views.{signature_seen}
use Rattle.px_real_values.proofs.calls.gives.Goals as goal

pub returns-in-Some : goal.returns-in-Some
returns-in-Some g c =
    let env = g.E.Environment.sees c.args.environment.now in
    let xs = T.arguments_of (map typed_argument c.args.arguments.items) in
    ap (λ e. of_type c.in-Some.kind c.args.at e) (typed-Call c.args.signature.proc c.args.arguments c.value_type.result c.args.at)
    ∙ ap (λ t. of_type c.in-Some.kind c.args.at (T.call c.args.signature.proc xs t c.args.at)) c.value_type.ensures
    ∙ sym (ap (λ r. gives env (signature_seen c.args.signature) c.args.at xs r) c.in-Some.is)

pub returns-in_ok-parts-in-None : goal.returns-in_ok-parts-in-None
returns-in_ok-parts-in-None g c =
    let env = g.E.Environment.sees c.args.environment.now in
    let xs = T.arguments_of (map typed_argument c.args.arguments.items) in
    c.outside_of.ensures
    ∙ ap (λ w. outside_of env w c.args.at (map typed_expression c.in_ok-parts-in-None.parts.items)) c.as_slice.ensures
    ∙ ap (λ es. outside_of env (codes "call") c.args.at es) c.in_ok-parts-in-None.ensures
    ∙ ap (λ e. outside_of env (codes "call") c.args.at (e ∷ [])) (typed-Call c.args.signature.proc c.args.arguments Int c.args.at)
    ∙ sym (ap (λ r. gives env (signature_seen c.args.signature) c.args.at xs r) c.in-None.is)
