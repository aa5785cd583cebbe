-- Frames.
use Rattle.std.specs.Prelude.{ℕ, ◌<◌, ◌≤◌, ◌+◌, List, ◌++◌, ◌≡◌, length, take, ◌⊎◌}
use Rattle.std.specs.Int.{w32, to_be_bytes, from_be_bytes}

-- the most bytes of a message in a frame
abbrev pub most_bytes : ℕ
most_bytes = 16777216

-- a message after its length in four bytes, high byte first
abbrev pub frame_of : List ℕ → List ℕ
frame_of message = to_be_bytes w32 (length message) ++ message

-- the length that the first four bytes name
abbrev pub named_length : List ℕ → ℕ
named_length bytes = from_be_bytes w32 (take 4 bytes)

-- the first four bytes are there and name this length
abbrev pub Names : List ℕ → ℕ → Type 0
Names bytes n = (4 ≤ length bytes) × (named_length bytes ≡ n)

-- the bytes of a frame that isn't whole yet: its length isn't, or its message isn't
abbrev pub IsPart : List ℕ → Type 0
IsPart bytes = (length bytes < 4) ⊎ ((n : ℕ) × Names bytes n × (n ≤ most_bytes) × (length bytes < 4 + n))

-- the first four bytes name a length that no frame may have
abbrev pub IsTooLong : List ℕ → ℕ → Type 0
IsTooLong bytes n = Names bytes n × (most_bytes < n)
