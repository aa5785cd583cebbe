use Rattle.std.proofs.Common.{◌≡◌, ◌∙◌, sym, ap, map}
use Rattle.std.proofs.lemmas.Result.{IfOk-weaker}
use Rattle.px_bodies.specs.Environment.{fields_of}
use Rattle.px_typing.specs.Declarations.{declared_field}
use Rattle.px_typing.specs.Shapes.{are_typed_after}
use Rattle.px_typing.proofs.ShapeLemmas.{are_typed-after}
use Rattle.px_typing.proofs.shapes.have_types.Goals as goal

pub returns : goal.returns
returns c =
    IfOk-weaker c.are_typed_declarations.result _ _
    (λ yes h. h ∙ ap (λ ns. are_typed_after ns (map declared_field (fields_of c.args.fields.now))) c.new-names.ensures ∙ sym (are_typed-after (map declared_field (fields_of c.args.fields.now))))
    c.are_typed_declarations.ensures
