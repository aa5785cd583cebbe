use Rattle.std.proofs.Common.{◌≡◌, ◌∙◌, ◌++◌, ◌+◌, List, ℕ, map, drop, sym, ap, append_assoc}
use Rattle.px_syntax.specs.declared.type_name.TypeName.{TypeName}
use Rattle.px_bodies.specs.Environment.{environment_of, fields_of, fields_of_one, value_type}
use Rattle.px_typing.proofs.MentionLemmas.{fields_next}
use Rattle.px_typing.proofs.making.field_types.Goals as goal

pub loop-declaration-preserved : goal.loop-declaration-preserved
loop-declaration-preserved c =
    let g = λ (f : List ℕ × TypeName). value_type (environment_of c.args.environment.now) f.1 in
    let rest = map g (fields_of (drop (c.loop-declaration.declaration-index + 1) c.args.fields.now)) in
    ap (λ a. a ++ rest) c.in_ok-add_field_types.ensures
    ∙ append_assoc c.loop-declaration.all (map g (fields_of_one c.declaration-item.result)) rest
    ∙ ap (λ z. c.loop-declaration.all ++ z)
    (sym (fields_next g c.args.fields.now c.loop-declaration.declaration-index c.declaration-item.result c.loop-declaration-test.true c.declaration-item.is))
    ∙ c.loop-declaration.invariant
