-- What a feeder answers to a piece.
use Rattle.std.specs.Prelude.{◌≡◌, ℕ, ◌≤◌, ◌<◌, List, [], ◌++◌, length, take, Result, Ok, Err}
use Rattle.px_frames.specs.declared.faults.FeedFault.{FeedFault}
use Rattle.px_frames.specs.declared.faults.FeedFault.TheVariants.{TooLong, NoMemory}
use Rattle.px_frames.specs.declared.feeder.Fed.{Fed}
use Rattle.px_frames.specs.declared.feeder.Fed.TheVariants.{Whole, Held}
use Rattle.px_frames.specs.Frames.{frame_of, most_bytes, IsPart, IsTooLong}

-- what a feeder holds: the bytes of a frame that isn't whole yet, or the length that it refused
pub data Feeding : Type 0 where
  holds : List ℕ → Feeding
  refuses : ℕ → Feeding

-- Where it holds bytes. A whole message is what the first frame has in these and those of the piece that were taken.
abbrev pub IsFedOn : List ℕ → List ℕ → Result Fed FeedFault → Feeding → Type 0
IsFedOn bytes piece (Ok (Whole message taken)) after =
    (taken ≤ length piece) × (length message.items ≤ most_bytes) × (bytes ++ take taken piece ≡ frame_of message.items) × (after ≡ holds [])
IsFedOn bytes piece (Ok Held) after = IsPart (bytes ++ piece) × (after ≡ holds (bytes ++ piece))
IsFedOn bytes piece (Err (TooLong n)) after = IsTooLong (bytes ++ piece) n × (after ≡ refuses n)
IsFedOn bytes piece (Err NoMemory) after = (length bytes < 4) × (4 ≤ length (bytes ++ piece)) × (after ≡ holds bytes)

-- a feeder that held this answers that to a piece, and then holds that
abbrev pub IsFed : Feeding → List ℕ → Result Fed FeedFault → Feeding → Type 0
IsFed (holds bytes) piece answer after = IsFedOn bytes piece answer after
IsFed (refuses n) piece answer after = (answer ≡ Err (TooLong n)) × (after ≡ refuses n)
