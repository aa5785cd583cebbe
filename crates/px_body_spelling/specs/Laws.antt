-- Round trips: what was written is read as it was, and as nothing else.
use Rattle.std.specs.Prelude.{◌≡◌, ℕ, ◌<◌, List, ◌++◌, get_or, Some}
use Rattle.px_core.specs.BodyTree.{BodyTree}
use Rattle.px_spelling.specs.Laws.{HasRoundTrip}
use Rattle.px_body_spelling.specs.Bodies.{body_bytes, IsBody, body_at}

-- each number is below 256
abbrev pub AreBytes : List ℕ → Type 0
AreBytes bytes = (i : ℕ) → get_or bytes i 0 < 256

pub record WrittenBodyIsRead : Type 0 where
  -- each body in range has its round trip: it is read as it was, whatever follows its bytes
  pub round_trip : HasRoundTrip body_bytes IsBody body_at
  -- what is read of bytes is in range, and they begin with its spelling
  pub spelled : (bytes : List ℕ) → AreBytes bytes → (b : BodyTree) (rest : List ℕ) → body_at bytes ≡ Some (b, rest) → (bytes ≡ body_bytes b ++ rest) × IsBody b
