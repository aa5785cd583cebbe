-- Where the last of some keys ends.
use Rattle.std.specs.Prelude.{◌≡◌, ◌≢◌, ℕ, ◌-◌, ◌<◌, ◌≤◌, List, slice_index}

-- of the first m places the last with the key is the last of the first n; n is 0 where none has it
pub record IsEndOfKey (keys : List ℕ) (key m n : ℕ) : Type 0 where
  pub within : n ≤ m
  pub here : 0 < n → slice_index keys (n - 1) ≡ key
  pub none_after : (i : ℕ) → n ≤ i → i < m → slice_index keys i ≢ key
