-- Where a reader of a new message stands, after bytes that it was handed.
use Rattle.std.specs.Prelude.{◌≡◌, ℕ, ◌+◌, ◌-◌, ◌<◌, ◌≤◌, List, [], ◌∷◌, ◌++◌, length, Ok, Err}
use Rattle.px_spelling.specs.declared.fault.WireFault.TheVariants.{NotAMessage}
use Rattle.px_wire.specs.Messages.{MessageTree}
use Rattle.px_wire.specs.Versions.{SpellsIn}
use Rattle.px_parts.specs.declared.part.Part.{Part}
use Rattle.px_parts.specs.declared.part.Part.TheVariants as P
use Rattle.px_parts.specs.declared.part.Taken.{Taken}
use Rattle.px_parts.specs.Places.{Place, Start}
use Rattle.px_parts.specs.Parts.{parts_of, IsReplying}
use Rattle.px_parts.specs.Stream.{Streams}
use Rattle.px_parts.specs.Taking.{Waiting, waits, refuses, IsTaken}
use Rattle.px_parts.specs.Laws.{IsWhole}

-- after these bytes of a message, where so many weren't taken, these parts were given
pub record HasGiven (bytes : List ℕ) (left : ℕ) (parts : List Part) (w : Waiting) : Type 0 where
  pub place : Place
  pub rest : List ℕ
  pub is : w ≡ waits place rest left
  pub streams : Streams Start bytes parts place rest

-- how many bytes were taken and not given, or not taken
abbrev pub to_give : Waiting → ℕ
to_give (waits p held left) = length held + left
to_give refuses = 0

-- Of a reader of a new message, and a piece that isn't longer than what is left:
pub record PartsFollow : Type 0 where
  pub begins : (n : ℕ) → HasGiven [] n [] (waits Start [] n)
  pub gave : (bytes piece : List ℕ) (left : ℕ) (parts : List Part) (w v : Waiting) (t : Taken) → HasGiven bytes left parts w → length piece ≤ left → IsTaken w piece (Ok t) v →
      IsWhole t.part → HasGiven (bytes ++ piece) (left - length piece) (parts ++ t.part ∷ []) v
  pub held : (bytes piece : List ℕ) (left : ℕ) (parts : List Part) (w v : Waiting) (t : Taken) → HasGiven bytes left parts w → length piece ≤ left → IsTaken w piece (Ok t) v →
      t.part ≡ P.Held → HasGiven (bytes ++ piece) (left - length piece) parts v × (0 < left - length piece)
  pub ended : (bytes piece : List ℕ) (left : ℕ) (parts : List Part) (w v : Waiting) (t : Taken) → HasGiven bytes left parts w → length piece ≤ left → IsTaken w piece (Ok t) v →
      t.part ≡ P.End → (left - length piece ≡ 0) × (number : ℕ) × (m : MessageTree) × IsReplying m × SpellsIn number (bytes ++ piece) m × (parts_of number m ≡ parts)
  pub refused : (bytes piece : List ℕ) (left : ℕ) (parts : List Part) (w v : Waiting) → HasGiven bytes left parts w → length piece ≤ left → IsTaken w piece (Err NotAMessage) v →
      (more : List ℕ) → length more ≡ left - length piece → (number : ℕ) (m : MessageTree) → IsReplying m → ¬ SpellsIn number ((bytes ++ piece) ++ more) m
  -- a message that begins with the bytes begins with the parts
  pub front : (bytes more : List ℕ) (left : ℕ) (parts : List Part) (w : Waiting) (number : ℕ) (m : MessageTree) → HasGiven bytes left parts w → IsReplying m → SpellsIn number (bytes ++ more) m →
      (others : List Part) × (parts_of number m ≡ parts ++ others)
  -- each part has bytes
  pub fewer : (piece : List ℕ) (w v : Waiting) (t : Taken) → IsTaken w piece (Ok t) v → IsWhole t.part → to_give v < to_give w
