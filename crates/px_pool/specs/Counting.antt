-- Counting the whole frames that bytes begin with.
use Rattle.std.specs.Prelude.{◌≡◌, ℕ, ◌≤◌, List, ◌++◌, length}
use Rattle.px_frames.specs.Frames.{frame_of, most_bytes}
use Rattle.px_frames.specs.Feeding.{Feeding}
use Rattle.px_frames.specs.Cutting.{IsRest}
use Rattle.px_pool.specs.Starts.{Numbers}

-- bytes begin with the whole frame of a message, and this stands after it
abbrev pub IsFirstFrame : List ℕ → List ℕ → List ℕ → Type 0
IsFirstFrame bytes message rest = (length message ≤ most_bytes) × (bytes ≡ frame_of message ++ rest)

-- bytes begin with a whole frame, and this stands after it
abbrev pub IsAfterFrame : List ℕ → List ℕ → Type 0
IsAfterFrame bytes rest = (message : List ℕ) × (length message ≤ most_bytes) × (bytes ≡ frame_of message ++ rest)

-- bytes begin with no whole frame
abbrev pub HasNoFrame : List ℕ → Type 0
HasNoFrame bytes = (left : Feeding) × IsRest bytes left

-- what a spawner counts: the links that run, those that were started, the whole frames that ended ones gave, and the starts that failed
pub record Counted : Type 0 where
  pub running : ℕ
  pub started : ℕ
  pub given : ℕ
  pub faults : ℕ

-- what it tells of them
abbrev pub numbers_of : Counted → Numbers
numbers_of c = record { given = c.given; started = c.started }
