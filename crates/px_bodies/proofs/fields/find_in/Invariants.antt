use Rattle.std.proofs.Common.{◌≡◌, ◌++◌, List, ℕ, drop}
use Rattle.px_syntax.specs.declared.type_name.TypeName.{TypeName}
use Rattle.px_bodies.specs.Environment.{field_from, fields_of_base, fields_of_one}
use Rattle.px_bodies.proofs.fields.find_in.Given as goal

abbrev pub invariant-loop-i : goal.invariant-loop-i
invariant-loop-i l = (rest : List (List ℕ × TypeName)) →
    field_from l.fn.from l.name (fields_of_one l.declaration ++ rest) ≡ field_from l.number l.name (fields_of_base l.declaration.base (drop l.i l.declarators) ++ rest)
