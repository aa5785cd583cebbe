-- Items by the numbers of their procedures.
use Rattle.std.specs.Prelude.{◌≡◌, ℕ, suc, ◌-◌, ◌<◌, min, List, length, slice_index, slice_index_or}
use Rattle.px_keep.specs.declared.kept.LentItem.{LentItem}

-- The keys are the numbers of the items' procedures, from the last item to the first; what isn't below the number of kept procedures
-- has that for its key.
pub record AreKeys (items : List LentItem) (kept : ℕ) (keys : List ℕ) : Type 0 where
  pub many : length keys ≡ length items
  pub each : (i : ℕ) (d : LentItem) → i < length items → slice_index keys i ≡ min (slice_index_or items (length items - suc i) d).proc kept
