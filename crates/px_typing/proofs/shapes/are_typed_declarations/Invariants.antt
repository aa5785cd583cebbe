use Rattle.std.proofs.Common.{◌≡◌, map, drop}
use Rattle.px_bodies.specs.Environment.{fields_of}
use Rattle.px_typing.specs.Declarations.{declared_field}
use Rattle.px_typing.specs.Shapes.{are_typed_after}
use Rattle.px_typing.proofs.shapes.are_typed_declarations.Given as goal

-- what is left keeps the rules where all do
abbrev pub invariant-loop-declaration : goal.invariant-loop-declaration
invariant-loop-declaration l =
    are_typed_after l.names (map declared_field (fields_of (drop l.declaration-index l.fields)))
    ≡ are_typed_after l.initial.names (map declared_field (fields_of l.fields))
