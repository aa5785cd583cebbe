use Rattle.std.proofs.Common.{◌≡◌, length, nat_lt, ◌≤◌, drop}
use Rattle.px_bodies.specs.Environment.{fields_of}
use Rattle.px_typing.proofs.shapes.are_many.Given as goal

-- what is left passes the room that is left where all pass 64
abbrev pub invariant-loop-declaration : goal.invariant-loop-declaration
invariant-loop-declaration l =
    nat_lt l.room (length (fields_of (drop l.declaration-index l.fields))) ≡ nat_lt 64 (length (fields_of l.fields))
