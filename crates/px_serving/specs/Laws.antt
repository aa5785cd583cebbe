-- Whole requests are served.
use Rattle.std.specs.Prelude.{◌≡◌, ◌⊎◌, ℕ, List, Some, Result, Ok, Err}
use Rattle.px_io.specs.Faults.{Rose}
use Rattle.px_lines.specs.declared.cause.Cause.{Cause}
use Rattle.px_lines.specs.declared.cause.Cause.TheVariants.{NoMemory}
use Rattle.px_lines.specs.declared.status.Status.{Status}
use Rattle.px_lines.specs.declared.status.Status.TheVariants.{Done}
use Rattle.px_lines.specs.Sinks.{Change}
use Rattle.px_worker.specs.Stops.{AreRequests}
use Rattle.px_serving.specs.Works.{Works}

-- Over an input of whole requests of either version with its kinds a worker has done all, or ends for want of memory, where no
-- count of its input or of what it puts out rose.
abbrev pub WholeRequestsAreServed : Type 0
WholeRequestsAreServed = (kinds requests : List ℕ) (input out : Change) (ended : Result Status Cause) → Works kinds input out ended →
    input.old ≡ Some requests → AreRequests 2 kinds requests → ¬ Rose input.before input.now → ¬ Rose out.before out.now → (ended ≡ Ok Done) ⊎ (ended ≡ Err NoMemory)
