use Rattle.std.proofs.Common.{◌≡◌, map, take}
use Rattle.px_bodies.specs.Environment.{environment_of}
use Rattle.px_bodies.specs.Lent.{type_of}
use Rattle.px_typing.specs.Programs.{block_type}
use Rattle.px_typing.proofs.making.block_types.Given as goal

abbrev pub invariant-loop-i : goal.invariant-loop-i
invariant-loop-i l = l.all ≡ map (block_type (environment_of l.environment)) (map type_of (take l.i l.types))
