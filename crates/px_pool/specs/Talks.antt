-- What passes over a link.
use Rattle.std.specs.Prelude.{◌≡◌, ℕ, ◌≤◌, ◌||◌, ◌&&◌, nat_eq, nat_lt, List, [], ◌++◌, length, take, Bool, false, Option, Some, None, ⊤}

-- the bytes that were sent over it, those that it gave, and whether it has ended
pub record Talk : Type 0 where
  pub sent : List ℕ
  pub given : List ℕ
  pub ended : Bool

-- nothing
abbrev pub nothing : Talk
nothing = record { sent = []; given = []; ended = false }

-- these bytes are sent
abbrev pub sends : List ℕ → Talk
sends bytes = record { sent = bytes; given = []; ended = false }

-- so many bytes, given where there is so much room, are the end: none, where there is some
abbrev pub is_end : ℕ → ℕ → Bool
is_end n room = nat_eq n 0 && nat_lt 0 room

-- so many bytes are given at the front of a slice
abbrev pub gives : ℕ → List ℕ → Talk
gives n into = record { sent = []; given = take n into; ended = is_end n (length into) }

-- one after another
abbrev pub followed_by : Talk → Talk → Talk
followed_by a b = record { sent = a.sent ++ b.sent; given = a.given ++ b.given; ended = a.ended || b.ended }

-- From what was told to what is, this passed. What tells nothing goes on telling nothing.
abbrev pub Passes : Option Talk → Option Talk → Talk → Type 0
Passes None None x = ⊤
Passes None (Some b) x = ⊥
Passes (Some a) None x = ⊥
Passes (Some a) (Some b) x = b ≡ followed_by a x

-- a part of these bytes was sent, from their front
abbrev pub SendsPart : Option Talk → Option Talk → List ℕ → Type 0
SendsPart old new bytes = (n : ℕ) × (n ≤ length bytes) × Passes old new (sends (take n bytes))

-- nothing passed yet, as far as it is told
abbrev pub IsFresh : Option Talk → Type 0
IsFresh None = ⊤
IsFresh (Some a) = a ≡ nothing
