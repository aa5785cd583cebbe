use Rattle.std.proofs.Common.{◌≡◌, map, drop}
use Rattle.px_typing.specs.Declarations.{declared_parameter}
use Rattle.px_typing.specs.Shapes.{are_typed_after}
use Rattle.px_typing.proofs.shapes.are_typed_parameters.Given as goal

-- what is left keeps the rules where all do
abbrev pub invariant-loop-parameter : goal.invariant-loop-parameter
invariant-loop-parameter l =
    are_typed_after l.names (map declared_parameter (drop l.parameter-index l.parameters))
    ≡ are_typed_after l.initial.names (map declared_parameter l.parameters)
