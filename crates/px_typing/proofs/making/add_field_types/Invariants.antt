use Rattle.std.proofs.Common.{◌≡◌, ◌++◌, map, drop}
use Rattle.px_bodies.specs.Environment.{environment_of, fields_of_one, value_type}
use Rattle.px_typing.proofs.making.add_field_types.Given as goal

-- what was found, and what is left, are all
abbrev pub invariant-loop-declarator : goal.invariant-loop-declarator
invariant-loop-declarator l =
    l.all ++ map (λ f. value_type (environment_of l.environment) f.1) (fields_of_one (record { base = l.declaration.base; declarators = drop l.declarator-index l.declaration.declarators }))
    ≡ l.initial.all ++ map (λ f. value_type (environment_of l.environment) f.1) (fields_of_one l.declaration)
