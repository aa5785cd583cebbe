-- Items that stand in bytes, with the number of their procedure.
use Rattle.std.specs.Prelude.{◌≡◌, ℕ, List}
use Rattle.std.specs.List.{AllByRecursion}
use Rattle.px_entry.specs.declared.derivations.Derivation.{Derivation}
use Rattle.px_entry.specs.declared.tables.Table.{Table}
use Rattle.px_callgraph.specs.JobTree.{JobTree}
use Rattle.px_wire.specs.Messages.{request, reply, Spells}
use Rattle.px_keep.specs.declared.kept.LentItem.{LentItem}
use Rattle.px_keep.specs.Items.{KeptItem, IsItem}

abbrev pub item_of : LentItem → KeptItem
item_of x = record { asked = x.asked.now; given = x.given.now }

-- an item, with the number of the procedure of its job
pub record IsLent (x : LentItem) : Type 0 where
  pub item : IsItem (item_of x)
  pub proc : item.job.proc.0 ≡ x.proc

abbrev pub AreLent : List LentItem → Type 0
AreLent xs = AllByRecursion IsLent xs

-- the message asks under ticket 0 for a job of the procedure with this number
abbrev pub AsksUnder0 : List ℕ → ℕ → Type 0
AsksUnder0 message n = (j : JobTree) × Spells message (request j) × (j.ticket ≡ 0) × (j.proc.0 ≡ n)

-- the message is a reply under ticket 0
abbrev pub GivesUnder0 : List ℕ → Type 0
GivesUnder0 message = (kinds : List ℕ) × (t : Table) × (ds : List Derivation) × Spells message (reply 0 kinds t ds)
