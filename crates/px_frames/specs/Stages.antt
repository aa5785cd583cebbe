-- How far a frame has come, in the code.
use Rattle.std.specs.Prelude.{ℕ, ◌<◌, ◌≤◌, ◌+◌, ◌^◌, ◌++◌, length, take, vec_capacity, ⊤}
use Rattle.std.specs.Int.{w32, to_be_bytes}
use Rattle.px_frames.specs.declared.feeder.Fed.{Fed}
use Rattle.px_frames.specs.declared.feeder.Fed.TheVariants.{Whole, Held}
use Rattle.px_frames.specs.declared.stages.Stage.{Stage}
use Rattle.px_frames.specs.declared.stages.Stage.TheVariants.{Length, Message, Refused}
use Rattle.px_frames.specs.Frames.{most_bytes}
use Rattle.px_frames.specs.Feeding.{Feeding, holds, refuses}

-- the bytes that it holds
abbrev pub feeding_of : Stage → Feeding
feeding_of (Length bytes have) = holds (take have bytes)
feeding_of (Message part wanted) = holds (to_be_bytes w32 wanted ++ part.items)
feeding_of (Refused n) = refuses n

-- what it keeps: no stage holds a whole length or a whole message, and the room of a message is taken
abbrev pub IsKept : Stage → Type 0
IsKept (Length bytes have) = have < 4
IsKept (Message part wanted) = (length part.items < wanted) × (wanted ≤ vec_capacity part) × (wanted ≤ most_bytes)
IsKept (Refused n) = most_bytes < n

-- what a piece gave, with so many bytes of it that were taken before
abbrev pub fed_after : Fed → ℕ → Fed
fed_after (Whole message taken) before = Whole message (taken + before)
fed_after Held before = Held

-- their sum is a number of the code
abbrev pub IsWithin : Fed → ℕ → Type 0
IsWithin (Whole message taken) before = taken + before < 2 ^ 64
IsWithin Held before = ⊤
