-- Bytes that a sink tells.
use Rattle.std.specs.Prelude.{ℕ, ◌≤◌, List, length, take, Option}
use Rattle.std.specs.Io.KnownBytes.{Appends}

-- told bytes grow by a prefix of these
abbrev pub AppendsPrefix : Option (List ℕ) → Option (List ℕ) → List ℕ → Type 0
AppendsPrefix old new bytes = (n : ℕ) × (n ≤ length bytes) × Appends old new (take n bytes)
