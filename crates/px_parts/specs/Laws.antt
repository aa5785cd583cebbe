-- The parts that pieces give are those of the message.
use Rattle.std.specs.Prelude.{◌≡◌, ◌≢◌, ℕ, List, [], ◌∷◌, ◌++◌, length, take, drop, Result, Ok, Err, ⊤}
use Rattle.px_spelling.specs.declared.fault.WireFault.{WireFault}
use Rattle.px_spelling.specs.declared.fault.WireFault.TheVariants.{NotAMessage, NoMemory}
use Rattle.px_wire.specs.Messages.{MessageTree}
use Rattle.px_wire.specs.Versions.{SpellsIn}
use Rattle.px_parts.specs.declared.part.Part.{Part}
use Rattle.px_parts.specs.declared.part.Part.TheVariants as P
use Rattle.px_parts.specs.declared.part.Taken.{Taken}
use Rattle.px_parts.specs.Places.{Place, Start}
use Rattle.px_parts.specs.Parts.{parts_of, IsReplying}
use Rattle.px_parts.specs.Stream.{Streams}
use Rattle.px_parts.specs.Taking.{Waiting, waits, IsTaken}

-- a part of a message
abbrev pub IsWhole : Part → Type 0
IsWhole P.Held = ⊥
IsWhole (P.Head number ticket kinds) = ⊤
IsWhole (P.Entry e) = ⊤
IsWhole (P.Drop g) = ⊤
IsWhole (P.Derivation d) = ⊤
IsWhole (P.Large number ticket) = ⊤
IsWhole P.End = ⊥

-- Pieces that are handed in one after another give these parts, and leave the reader so. What a part leaves of its piece is handed in
-- next.
pub data Takes : Waiting → List (List ℕ) → List Part → Waiting → Type 0 where
  none : {w : Waiting} → Takes w [] [] w
  gave : {w v u : Waiting} {piece : List ℕ} {pieces : List (List ℕ)} {parts : List Part} (t : Taken) →
      IsTaken w piece (Ok t) v → IsWhole t.part → Takes v (drop t.taken piece ∷ pieces) parts u → Takes w (piece ∷ pieces) (t.part ∷ parts) u
  held : {w v u : Waiting} {piece : List ℕ} {pieces : List (List ℕ)} {parts : List Part} (t : Taken) →
      IsTaken w piece (Ok t) v → t.part ≡ P.Held → Takes v pieces parts u → Takes w (piece ∷ pieces) parts u

-- all bytes of pieces
abbrev pub joined : List (List ℕ) → List ℕ
joined [] = []
joined (piece ∷ pieces) = piece ++ joined pieces

-- the first bytes of a message of so many, where these pieces were handed in
abbrev pub taken_of : ℕ → List (List ℕ) → List ℕ → List ℕ
taken_of n pieces piece = take n (joined pieces ++ piece)

-- an answer that is the end, unless memory ran out
abbrev pub IsEndAtMost : Result Taken WireFault → Type 0
IsEndAtMost (Ok t) = t.part ≡ P.End
IsEndAtMost (Err NotAMessage) = ⊥
IsEndAtMost (Err NoMemory) = ⊤

-- Of a new reader that is handed in pieces, and then one more:
pub record PartsAreThose : Type 0 where
  -- each message that begins with the bytes begins with the parts
  pub front : (n : ℕ) (pieces : List (List ℕ)) (more : List ℕ) (parts : List Part) (w : Waiting) (number : ℕ) (m : MessageTree) → Takes (waits Start [] n) pieces parts w →
      IsReplying m → SpellsIn number (joined pieces ++ more) m → length (joined pieces ++ more) ≡ n → (others : List Part) × (parts_of number m ≡ parts ++ others)
  -- where nothing comes yet, the bytes hold no further part
  pub no_further : (n : ℕ) (pieces : List (List ℕ)) (piece : List ℕ) (parts : List Part) (w v : Waiting) (t : Taken) → Takes (waits Start [] n) pieces parts w →
      IsTaken w piece (Ok t) v → t.part ≡ P.Held → (x : Part) (q : Place) (rest : List ℕ) → ¬ Streams Start (taken_of n pieces piece) (parts ++ x ∷ []) q rest
  -- at the end they are a message, of which these are all parts
  pub whole : (n : ℕ) (pieces : List (List ℕ)) (piece : List ℕ) (parts : List Part) (w v : Waiting) (t : Taken) → Takes (waits Start [] n) pieces parts w →
      IsTaken w piece (Ok t) v → t.part ≡ P.End → (number : ℕ) × (m : MessageTree) × IsReplying m × SpellsIn number (taken_of n pieces piece) m × (parts_of number m ≡ parts)
  -- and where no byte is missing, they are a message, and these are all its parts, it is the end
  pub all_given : (n : ℕ) (pieces : List (List ℕ)) (piece : List ℕ) (parts : List Part) (w v : Waiting) (answer : Result Taken WireFault) (number : ℕ) (m : MessageTree) →
      Takes (waits Start [] n) pieces parts w → IsTaken w piece answer v → length (taken_of n pieces piece) ≡ n → IsReplying m → SpellsIn number (taken_of n pieces piece) m → parts_of number m ≡ parts → IsEndAtMost answer
  -- where no byte is missing, it doesn't wait for more
  pub none_missing : (n : ℕ) (pieces : List (List ℕ)) (piece : List ℕ) (parts : List Part) (w v : Waiting) (t : Taken) → Takes (waits Start [] n) pieces parts w →
      IsTaken w piece (Ok t) v → length (taken_of n pieces piece) ≡ n → t.part ≢ P.Held
  -- where they are refused, no message of that length begins with them
  pub no_message : (n : ℕ) (pieces : List (List ℕ)) (piece : List ℕ) (parts : List Part) (w v : Waiting) → Takes (waits Start [] n) pieces parts w →
      IsTaken w piece (Err NotAMessage) v → (more : List ℕ) → length (taken_of n pieces piece ++ more) ≡ n → (number : ℕ) (m : MessageTree) → IsReplying m → ¬ SpellsIn number (taken_of n pieces piece ++ more) m
