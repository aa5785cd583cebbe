-- What a spawner tells of its links.
use Rattle.std.specs.Prelude.{◌≡◌, ℕ, ◌+◌, ◌≤◌, List, length, Option, Some, None, ⊤}
use Rattle.px_frames.specs.Feeding.{Feeding}
use Rattle.px_frames.specs.Cutting.{AreFrames}
use Rattle.px_pool.specs.Talks.{Talk}

-- how many whole frames its ended links gave, and how many links it started
pub record Numbers : Type 0 where
  pub given : ℕ
  pub started : ℕ

-- From what was told to what is, so many frames and so many links came to them. What tells nothing goes on telling nothing.
abbrev pub Counts : Option Numbers → Option Numbers → ℕ → ℕ → Type 0
Counts None None frames links = ⊤
Counts None (Some b) frames links = ⊥
Counts (Some a) None frames links = ⊥
Counts (Some a) (Some b) frames links = (b.given ≡ a.given + frames) × (b.started ≡ a.started + links)

-- bytes begin with so many whole frames, and no more
abbrev pub HasFrames : List ℕ → ℕ → Type 0
HasFrames bytes n = (messages : List (List ℕ)) × (left : Feeding) × AreFrames bytes messages left × (length messages ≡ n)

-- a link tells what passed over it exactly where its spawner tells its numbers
abbrev pub TellsAlike : Option Numbers → Option Talk → Type 0
TellsAlike None None = ⊤
TellsAlike None (Some talk) = ⊥
TellsAlike (Some a) None = ⊥
TellsAlike (Some a) (Some talk) = ⊤

-- a link gave so many whole frames or more, where it tells its bytes
abbrev pub GaveFrames : Option Talk → ℕ → Type 0
GaveFrames None n = ⊤
GaveFrames (Some talk) n = (m : ℕ) → HasFrames talk.given m → n ≤ m

-- The whole frames of an ended link come to them, where it tells its bytes. One that tells nothing changes no number.
abbrev pub CountsEnded : Option Numbers → Option Numbers → Option Talk → Type 0
CountsEnded old new None = Counts old new 0 0
CountsEnded old new (Some talk) = (n : ℕ) × HasFrames talk.given n × Counts old new n 0
