-- What rounds come to.
use Rattle.std.specs.Prelude.{◌≡◌, ℕ, ◌*◌, ◌<◌, ◌≤◌, List, length}
use Rattle.px_io.specs.Faults.{Rose}
use Rattle.px_drivers.specs.declared.ends.Leaving.{Leaving}
use Rattle.px_drivers.specs.Crews.{Standing, Rises, RoseBy, in_all, left_so, for_start, for_losses}

-- Rounds of so many workers: as many links run as before. A worker was left at a start only where the count of failed starts rose, and
-- it rose once for each such worker, and not oftener. The receipts count no more publications than whole frames were given. Four links were started for each worker that was left for its
-- losses, and no more than four for any.
pub record IsEnd (workers : ℕ) (a b : Standing) (receipts : List ℕ) (left : List (ℕ × Leaving)) : Type 0 where
  pub links : b.links ≡ a.links
  pub start : 0 < left_so for_start left → Rose a.count b.count
  pub failed : RoseBy (left_so for_start left) a.count b.count
  pub rises : Rises a.told b.told (in_all receipts) (4 * left_so for_losses left) (4 * workers)
  pub few_receipts : length receipts ≤ workers
  pub few_left : length left ≤ workers
