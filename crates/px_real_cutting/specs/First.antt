-- The piece at the front of tokens.
use Rattle.std.specs.Prelude.{ℕ, ◌+◌, ◌<◌, ◌≤◌, List, [], ◌∷◌, length, drop, Result}
use Rattle.px_base.specs.declared.trace.Site.{Site}
use Rattle.px_real_cutting.specs.declared.roles.Mark.{Mark}
use Rattle.px_real_cutting.specs.declared.roles.Ending.{Ending}
use Rattle.px_real_cutting.specs.declared.pieces.Piece.{Piece}
use Rattle.px_real_cutting.specs.Pieces.{Cuts, with_pieces, piece}

-- the first n tokens are the first piece, which ends so, whatever the others are
abbrev pub IsFirstPiece : List Mark → Ending → ℕ → Type 0
IsFirstPiece ts e n = (0 < n) × (n ≤ length ts) × ((at : ℕ) (remaining : Result (List Piece) Site) → Cuts (at + n) (drop n ts) remaining → Cuts at ts (with_pieces (piece e at (at + n) ∷ []) remaining))
