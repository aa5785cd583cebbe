use Rattle.std.proofs.Common.{◌≡◌, drop}
use Rattle.px_bodies.specs.Environment.{field_from, fields_of}
use Rattle.px_bodies.proofs.fields.find_field.Given as goal

abbrev pub invariant-loop-i : goal.invariant-loop-i
invariant-loop-i l = field_from 0 l.name (fields_of l.declarations) ≡ field_from l.number l.name (fields_of (drop l.i l.declarations))
