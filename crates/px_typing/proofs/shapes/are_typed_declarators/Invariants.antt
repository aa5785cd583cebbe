use Rattle.std.proofs.Common.{◌≡◌, map, drop}
use Rattle.px_bodies.specs.Environment.{fields_of_one}
use Rattle.px_typing.specs.Declarations.{declared_field}
use Rattle.px_typing.specs.Shapes.{are_typed_after, names_after}
use Rattle.px_typing.proofs.shapes.are_typed_declarators.Given as goal

-- what is left keeps the rules where all do, and ends with the same names
abbrev pub invariant-loop-declarator : goal.invariant-loop-declarator
invariant-loop-declarator l = record {
  rules :
      are_typed_after l.names (map declared_field (fields_of_one (record { base = l.declaration.base; declarators = drop l.declarator-index l.declaration.declarators })))
      ≡ are_typed_after l.initial.names (map declared_field (fields_of_one l.declaration));
  ends :
      names_after l.names (map declared_field (fields_of_one (record { base = l.declaration.base; declarators = drop l.declarator-index l.declaration.declarators })))
      ≡ names_after l.initial.names (map declared_field (fields_of_one l.declaration));
}
