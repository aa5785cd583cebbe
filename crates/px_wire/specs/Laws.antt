-- One spelling for each message in each version, and what is read in it.
use Rattle.std.specs.Prelude.{◌≡◌, ℕ, List, Some}
use Rattle.px_wire.specs.Messages.{MessageTree, IsMessage, Spells}
use Rattle.px_wire.specs.Versions.{bytes_in, HasVersion, SpellsIn}
use Rattle.px_wire.specs.Readers.{message_in}

pub record OneSpelling : Type 0 where
  pub one_list : (m : MessageTree) (bytes others : List ℕ) → Spells bytes m → Spells others m → bytes ≡ others
  pub one_message : (bytes : List ℕ) (m n : MessageTree) → Spells bytes m → Spells bytes n → m ≡ n
  -- in each version
  pub one_list_in : (number : ℕ) (m : MessageTree) (bytes others : List ℕ) → SpellsIn number bytes m → SpellsIn number others m → bytes ≡ others
  pub one_told : (bytes : List ℕ) (number other : ℕ) (m n : MessageTree) → SpellsIn number bytes m → SpellsIn other bytes n → (number ≡ other) × (m ≡ n)

pub record EncodedIsDecoded : Type 0 where
  pub spelled : (number : ℕ) (m : MessageTree) → IsMessage m → HasVersion number m → SpellsIn number (bytes_in number m) m
  pub read : (bytes : List ℕ) (number : ℕ) (m : MessageTree) → SpellsIn number bytes m → message_in bytes ≡ Some (number, m)
