use Rattle.std.proofs.Common.{◌≡◌, map, take}
use Rattle.px_bodies.specs.Lent.{type_of}
use Rattle.px_typing.proofs.making.copied_types.Given as goal

abbrev pub invariant-loop-i : goal.invariant-loop-i
invariant-loop-i l = l.all.items ≡ map type_of (take l.i l.types)
