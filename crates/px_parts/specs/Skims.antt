-- How far the bytes of what comes next were passed over, in the code.
use Rattle.std.specs.Prelude.{◌≡◌, ℕ, ◌≤◌, List, [], length, drop, true}
use Rattle.px_parts.specs.Places.{Place}
use Rattle.px_parts.specs.declared.skim.Skim.{Skim}
use Rattle.px_parts.specs.Forms.{Passes, dues_at}

-- bytes from a place were passed over so far, where that was begun
abbrev pub IsSkim : Place → List ℕ → Skim → Type 0
IsSkim p bytes s = s.begun ≡ true → (s.passed ≤ length bytes) × Passes (dues_at p) bytes s.dues.items (drop s.passed bytes)

-- all that is due at a place is in these bytes
abbrev pub IsEnded : Place → List ℕ → Type 0
IsEnded p bytes = (rest : List ℕ) × Passes (dues_at p) bytes [] rest
