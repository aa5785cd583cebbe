-- Places with keys that are linked.
use Rattle.std.specs.Prelude.{ℕ, ◌<◌, List, length, map, slice_index, slice_index_or}
use Rattle.px_chains.specs.declared.chains.Link.{Link}
use Rattle.px_chains.specs.Ends.{IsEndOfKey}

abbrev pub keys_of : List Link → List ℕ
keys_of links = map (λ l. l.key) links

abbrev pub link_at : List Link → ℕ → Link
link_at links i = slice_index_or links i (record { key = 0; before = 0 })

-- each place knows where the last one before it of its key ends, and each key where its last place does
pub record AreLinked (links : List Link) (ends : List ℕ) : Type 0 where
  pub inside : (i : ℕ) → i < length links → (link_at links i).key < length ends
  pub before : (i : ℕ) → i < length links → IsEndOfKey (keys_of links) (link_at links i).key i (link_at links i).before
  pub last : (key : ℕ) → IsEndOfKey (keys_of links) key (length links) (slice_index ends key)
