-- Kept items as bytes.
use Rattle.std.specs.Prelude.{◌≡◌, ℕ, ◌≤◌, List, [], ◌∷◌, ◌++◌, length, flat_map}
use Rattle.std.specs.List.{AllByRecursion}
use Rattle.px_entry.specs.declared.derivations.Derivation.{Derivation}
use Rattle.px_entry.specs.declared.tables.Table.{Table}
use Rattle.px_callgraph.specs.JobTree.{JobTree}
use Rattle.px_frames.specs.Frames.{frame_of, most_bytes}
use Rattle.px_wire.specs.Messages.{request, reply, Spells}

-- the two messages of an item: what was asked, and what was given
pub record KeptItem : Type 0 where
  pub asked : List ℕ
  pub given : List ℕ

-- It is so formed: it asks for a job, and a reply is given, both under ticket 0, and both have room in a frame.
pub record IsItem (x : KeptItem) : Type 0 where
  pub asked_short : length x.asked ≤ most_bytes
  pub job : JobTree
  pub asks : Spells x.asked (request job)
  pub asked_ticket : job.ticket ≡ 0
  pub given_short : length x.given ≤ most_bytes
  pub kinds : List ℕ
  pub table : Table
  pub derivations : List Derivation
  pub gives : Spells x.given (reply 0 kinds table derivations)

abbrev pub AreItems : List KeptItem → Type 0
AreItems xs = AllByRecursion IsItem xs

-- two frames
abbrev pub item_bytes : KeptItem → List ℕ
item_bytes x = frame_of x.asked ++ frame_of x.given

abbrev pub items_bytes : List KeptItem → List ℕ
items_bytes xs = flat_map item_bytes xs

-- the eight bytes before all items: PULSEXK1
abbrev pub head : List ℕ
head = 80 ∷ 85 ∷ 76 ∷ 83 ∷ 69 ∷ 88 ∷ 75 ∷ 49 ∷ []

-- The bytes are the head and whole items: these, in their order, and no others.
pub record AreKept (bytes : List ℕ) (xs : List KeptItem) : Type 0 where
  pub items : AreItems xs
  pub bytes_are : bytes ≡ head ++ items_bytes xs
