-- Bytes that are written in pieces.
use Rattle.std.specs.Prelude.{◌≡◌, ℕ, ◌≤◌, List, [], ◌∷◌, length, Result}
use Rattle.px_io.specs.declared.sink.Failed.{Failed}

-- the most bytes that `write_all` offers in one call
abbrev pub most_offered : ℕ
most_offered = 4096

module _ {S : Type 0} (takes : S → List ℕ → Result ℕ Failed → S → Type 0) where
  -- from this object to that one by calls of `write` with these pieces, none of them long
  abbrev pub WritesPieces : S → List (List ℕ) → S → Type 0
  WritesPieces s [] t = t ≡ s
  WritesPieces s (piece ∷ pieces) t =
      (length piece ≤ most_offered) × ((m : S) × (r : Result ℕ Failed) × takes s piece r m × WritesPieces m pieces t)
