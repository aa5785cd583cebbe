-- The parts of a message.
use Rattle.std.specs.Prelude.{ℕ, List, [], ◌∷◌, ◌++◌, map, ⊤}
use Rattle.px_entry.specs.declared.tables.Table.{Table}
use Rattle.px_entry.specs.declared.derivations.Derivation.{Derivation}
use Rattle.px_wire.specs.Messages.{MessageTree, request, reply, large}
use Rattle.px_parts.specs.declared.part.Part.{Part}
use Rattle.px_parts.specs.declared.part.Part.TheVariants as P

-- the parts of a table and of derivations
abbrev pub table_parts : Table → List Derivation → List Part
table_parts table derivations = map P.Entry table.entries ++ (map P.Drop table.drops ++ map P.Derivation derivations)

-- the parts of a message in a version, in the order of its bytes; a request has none
abbrev pub parts_of : ℕ → MessageTree → List Part
parts_of number (request j) = []
parts_of number (reply ticket kinds table derivations) = P.Head number ticket kinds ∷ table_parts table derivations
parts_of number (large ticket) = P.Large number ticket ∷ []

-- a worker may say it
abbrev pub IsReplying : MessageTree → Type 0
IsReplying (request j) = ⊥
IsReplying (reply ticket kinds table derivations) = ⊤
IsReplying (large ticket) = ⊤
