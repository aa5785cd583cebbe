use Rattle.std.proofs.Common.{◌≡◌, ◌++◌, map, drop}
use Rattle.px_bodies.specs.Environment.{environment_of, fields_of, value_type}
use Rattle.px_typing.proofs.making.field_types.Given as goal

-- what was found, and what is left, are all
abbrev pub invariant-loop-declaration : goal.invariant-loop-declaration
invariant-loop-declaration l =
    l.all ++ map (λ f. value_type (environment_of l.environment) f.1) (fields_of (drop l.declaration-index l.fields))
    ≡ map (λ f. value_type (environment_of l.environment) f.1) (fields_of l.fields)
