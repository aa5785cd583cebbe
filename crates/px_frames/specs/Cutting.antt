-- The messages in bytes, however these are cut.
use Rattle.std.specs.Prelude.{◌≡◌, ℕ, ◌≤◌, List, [], ◌∷◌, ◌++◌, length, drop, Vec, Ok, Err}
use Rattle.std.specs.declared.alloc.Global.{Global}
use Rattle.px_frames.specs.declared.feeder.Fed.TheVariants.{Whole, Held}
use Rattle.px_frames.specs.declared.faults.FeedFault.TheVariants.{TooLong}
use Rattle.px_frames.specs.Frames.{frame_of, most_bytes, IsPart, IsTooLong}
use Rattle.px_frames.specs.Feeding.{Feeding, holds, refuses, IsFed}

-- Pieces that are fed one after another give messages, and leave the feeder so. What a message leaves of its piece
-- is fed next.
pub data Feeds : Feeding → List (List ℕ) → List (List ℕ) → Feeding → Type 0 where
  none : {f : Feeding} → Feeds f [] [] f
  whole : {f g h : Feeding} {piece : List ℕ} {pieces messages : List (List ℕ)} (message : Vec ℕ Global) (taken : ℕ) →
      IsFed f piece (Ok (Whole message taken)) g → Feeds g (drop taken piece ∷ pieces) messages h → Feeds f (piece ∷ pieces) (message.items ∷ messages) h
  held : {f g h : Feeding} {piece : List ℕ} {pieces messages : List (List ℕ)} →
      IsFed f piece (Ok Held) g → Feeds g pieces messages h → Feeds f (piece ∷ pieces) messages h
  refused : {f g h : Feeding} {piece : List ℕ} {pieces messages : List (List ℕ)} (n : ℕ) →
      IsFed f piece (Err (TooLong n)) g → Feeds g pieces messages h → Feeds f (piece ∷ pieces) messages h

-- all bytes of pieces
abbrev pub joined : List (List ℕ) → List ℕ
joined [] = []
joined (piece ∷ pieces) = piece ++ joined pieces

-- what bytes hold after the last whole frame: a part of one, or a length that no frame may have
abbrev pub IsRest : List ℕ → Feeding → Type 0
IsRest bytes (holds part) = IsPart part × (bytes ≡ part)
IsRest bytes (refuses n) = IsTooLong bytes n

-- these messages are the frames in the bytes, one after another, and the rest is no whole frame
abbrev pub AreFrames : List ℕ → List (List ℕ) → Feeding → Type 0
AreFrames bytes [] left = IsRest bytes left
AreFrames bytes (message ∷ messages) left = (length message ≤ most_bytes) × (rest : List ℕ) × (bytes ≡ frame_of message ++ rest) × AreFrames rest messages left

-- A new feeder gives the frames in the bytes of its pieces, however these are cut, and no two cuttings differ.
abbrev pub CutsDontMatter : Type 0
CutsDontMatter =
    ((pieces messages : List (List ℕ)) (left : Feeding) → Feeds (holds []) pieces messages left → AreFrames (joined pieces) messages left)
    × ((bytes : List ℕ) (ms ns : List (List ℕ)) (f g : Feeding) → AreFrames bytes ms f → AreFrames bytes ns g → (ms ≡ ns) × (f ≡ g))
