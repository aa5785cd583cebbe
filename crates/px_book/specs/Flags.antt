-- Flags, by their places.
use Rattle.std.specs.Prelude.{◌≡◌, ℕ, ◌+◌, ◌*◌, ◌<◌, ◌≤◌, List, length, Bool, true, false, Option, Some, None, slice_index_or}

abbrev pub flag_at : List Bool → ℕ → Bool
flag_at flags n = slice_index_or flags n false

-- none of those from the first of these places up to the second is set
abbrev pub NoneSet : List Bool → ℕ → ℕ → Type 0
NoneSet flags from to = (n : ℕ) → from ≤ n → n < to → ¬ (flag_at flags n ≡ true)

-- the least of them that is set, if one is
abbrev pub IsLeastIn : List Bool → ℕ → ℕ → Option ℕ → Type 0
IsLeastIn flags from to None = NoneSet flags from to
IsLeastIn flags from to (Some n) = (from ≤ n) × (n < to) × (flag_at flags n ≡ true) × NoneSet flags from n

-- the least of all that is set, if one is
abbrev pub IsLeast : List Bool → Option ℕ → Type 0
IsLeast flags o = IsLeastIn flags 0 (length flags) o

-- A mark for each 32 flags, which is set where one of them is.
pub record AreMarks (flags marks : List Bool) : Type 0 where
  pub enough : length flags ≤ 32 * length marks
  pub few : 32 * length marks ≤ length flags + 32
  pub marked : (block n : ℕ) → 32 * block ≤ n → n < 32 * block + 32 → flag_at flags n ≡ true → flag_at marks block ≡ true
