use Rattle.std.proofs.Common.{◌≡◌, ◌∙◌, sym, ap, map, ◌&&◌}
use Rattle.std.proofs.lemmas.Result.{IfOk-weaker}
use Rattle.px_typing.specs.Declarations.{declared_parameter, are_typed}
use Rattle.px_typing.specs.Shapes.{are_typed_after}
use Rattle.px_typing.proofs.ShapeLemmas.{are_typed-after}
use Rattle.px_typing.proofs.shapes.is_prototype.Goals as goal

pub returns : goal.returns
returns c =
    let value = c.if-not-is_result_type.false in
    IfOk-weaker c.are_typed_parameters.result _ _
    (λ yes h. h ∙ ap (λ ns. are_typed_after ns (map declared_parameter c.args.parameters.now)) c.new-names.ensures
    ∙ sym (are_typed-after (map declared_parameter c.args.parameters.now))
    ∙ ap (λ b. b && are_typed (map declared_parameter c.args.parameters.now)) (sym value ∙ c.is_result_type.ensures))
    c.are_typed_parameters.ensures
