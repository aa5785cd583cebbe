use Rattle.std.proofs.Common.{◌≡◌, ◌∙◌, sym, ap, map, drop, ◌+◌}
use Rattle.px_bodies.specs.Environment.{fields_of}
use Rattle.px_typing.specs.Declarations.{declared_field}
use Rattle.px_typing.specs.Shapes.{are_typed_after}
use Rattle.px_typing.proofs.ShapeLemmas.{broken_declaration, kept_declaration}
use Rattle.px_typing.proofs.shapes.are_typed_declarations.Goals as goal

pub returns-then-not-branch : goal.returns-then-not-branch
returns-then-not-branch c =
    let broken = c.if-not-branch.true in
    sym (sym c.loop-declaration.invariant
    ∙ broken_declaration c.args.fields.now c.loop-declaration.declaration-index c.declaration-item.result c.loop-declaration.names c.loop-declaration-test.true c.declaration-item.is
    (sym c.in_ok-are_typed_declarators.ensures.answer ∙ broken))

pub loop-declaration-preserved : goal.loop-declaration-preserved
loop-declaration-preserved c =
    let kept = c.if-not-branch.false in
    ap (λ ns. are_typed_after ns (map declared_field (fields_of (drop (c.loop-declaration.declaration-index + 1) c.args.fields.now)))) (c.in_ok-are_typed_declarators.ensures.names kept)
    ∙ sym (sym c.loop-declaration.invariant
    ∙ kept_declaration c.args.fields.now c.loop-declaration.declaration-index c.declaration-item.result c.loop-declaration.names c.loop-declaration-test.true c.declaration-item.is
    (sym c.in_ok-are_typed_declarators.ensures.answer ∙ kept))
