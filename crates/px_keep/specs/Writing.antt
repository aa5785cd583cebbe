-- The items that are written.
use Rattle.std.specs.Prelude.{◌≡◌, ℕ, List, [], ◌∷◌, ◌++◌, length, ◌&&◌, nat_le, if◌then◌else◌}
use Rattle.px_entry.specs.declared.derivations.Derivation.{Derivation}
use Rattle.px_entry.specs.declared.tables.Table.{Table}
use Rattle.px_callgraph.specs.JobTree.{JobTree}
use Rattle.px_frames.specs.Frames.{most_bytes}
use Rattle.px_wire.specs.Messages.{message_bytes, request, reply, IsMessage}
use Rattle.px_keep.specs.Items.{KeptItem, AreItems, items_bytes}

abbrev pub item : List ℕ → List ℕ → KeptItem
item asked given = record { asked = asked; given = given }

-- the item of two messages; none, where one is too long for a frame
abbrev pub with_room : List ℕ → List ℕ → List KeptItem
with_room asked given = if nat_le (length asked) most_bytes && nat_le (length given) most_bytes then item asked given ∷ [] else []

-- that of a job, with its table and the derivations of its entries
abbrev pub items_for : JobTree → Table → List Derivation → List KeptItem
items_for j t ds = with_room (message_bytes (request j)) (message_bytes (reply 0 j.kinds t ds))

-- the items of a job, its table and the derivations of its entries, which are in range, are put after these bytes
pub record IsPut (j : JobTree) (t : Table) (ds : List Derivation) (old new : List ℕ) : Type 0 where
  pub asks : IsMessage (request j)
  pub gives : IsMessage (reply 0 j.kinds t ds)
  pub items : AreItems (items_for j t ds)
  pub bytes : new ≡ old ++ items_bytes (items_for j t ds)
