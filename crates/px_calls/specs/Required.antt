-- Which atoms of the caller an entry has met already.
use Rattle.std.specs.Prelude.{◌≡◌, ◌<◌, ℕ, Bool, false, List, length, nat_eq, slice_index_or}
use Rattle.std.specs.List.{list_any}

-- each number of so many has a mark, which says whether it was used
pub record AreMarked (used : List ℕ) (count : ℕ) (marks : List Bool) : Type 0 where
  pub each : length marks ≡ count
  pub is : (n : ℕ) → n < count → slice_index_or marks n false ≡ list_any (nat_eq n) used
