use Rattle.std.proofs.Common.{◌∙◌, sym, ap, ap₂, map, Some}
use Rattle.px_syntax.specs.TypedTree as T
use Rattle.px_syntax.specs.TypedViews.{typed_argument}
use Rattle.px_syntax.proofs.TypedEquations.{typed-Call}
use Rattle.px_bodies.specs.Environment.{environment_of}
use Rattle.px_bodies.specs.Lent.{type_of}
use Rattle.px_bodies.specs.Typed.{of_type}
use Rattle.px_bodies.proofs.ArgumentLemmas.{call-is}
use Rattle.px_bodies.proofs.expressions.call.Goals as goal

pub returns : goal.returns
returns c =
    let t = type_of c.in_ok-value.value in
    let xs = T.arguments_of (map typed_argument c.args.arguments.items) in
    call-is (environment_of c.args.environment.now) c.args.name.now c.args.site (map typed_argument c.args.arguments.items) t c.in_ok-value.ensures c.if-not-is_value.ensures
    ∙ ap₂ (λ p v. Some (of_type t (T.call p xs v c.args.site))) (sym c.proc_id.ensures) (sym c.value_type.ensures)
    ∙ ap (λ e. Some (of_type t e)) (sym (typed-Call c.proc_id.result c.args.arguments c.value_type.result c.args.site))
