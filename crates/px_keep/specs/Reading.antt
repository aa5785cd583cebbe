-- What is read in bytes.
use Rattle.std.specs.Prelude.{◌≡◌, ◌≢◌, ◌⊎◌, ⊤, ℕ, ◌+◌, ◌<◌, List, ◌++◌, length, take, Result, Ok, Err}
use Rattle.px_keep.specs.declared.faults.KeepFault.{KeepFault}
use Rattle.px_keep.specs.declared.faults.KeepFault.TheVariants.{Bad, NoMemory}
use Rattle.px_keep.specs.Items.{KeptItem, IsItem, AreItems, item_bytes, items_bytes, head, AreKept}

-- the bytes don't begin with an item
abbrev pub BeginWithNone : List ℕ → Type 0
BeginWithNone bytes = (x : KeptItem) (more : List ℕ) → IsItem x → bytes ≡ item_bytes x ++ more → ⊥

-- after the head and whole items bytes stand at this place that don't begin with one
pub record IsBadItemAt (bytes : List ℕ) (place : ℕ) : Type 0 where
  pub before : List KeptItem
  pub items : AreItems before
  pub rest : List ℕ
  pub split : bytes ≡ head ++ items_bytes before ++ rest
  pub some : 0 < length rest
  pub none : BeginWithNone rest
  pub place_is : place ≡ 8 + length (items_bytes before)

-- the first eight bytes are others, and the place is 0; or the first item that isn't whole and so formed begins there
abbrev pub IsBadAt : List ℕ → ℕ → Type 0
IsBadAt bytes place = ((take 8 bytes ≢ head) × (place ≡ 0)) ⊎ IsBadItemAt bytes place

-- all items of the bytes; where they are bad; or memory ran out
abbrev pub IsRead : List ℕ → Result (List KeptItem) KeepFault → Type 0
IsRead bytes (Ok xs) = AreKept bytes xs
IsRead bytes (Err (Bad place)) = IsBadAt bytes place
IsRead bytes (Err NoMemory) = ⊤
