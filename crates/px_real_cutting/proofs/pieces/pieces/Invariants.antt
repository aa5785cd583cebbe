use Rattle.std.proofs.Common.{◌≡◌, ◌+◌, List, length, map, Result}
use Rattle.px_base.specs.declared.trace.Site.{Site}
use Rattle.px_real_cutting.specs.declared.pieces.Piece.{Piece}
use Rattle.px_real_cutting.specs.Roles.{as_mark}
use Rattle.px_real_cutting.specs.Pieces.{Cuts, with_pieces}
use Rattle.px_real_cutting.proofs.pieces.pieces.Given as goal

abbrev pub invariant-loop-rest : goal.invariant-loop-rest
invariant-loop-rest l = record {
  within : l.first + length l.rest ≡ length l.tokens;
  so_far : (remaining : Result (List Piece) Site) → Cuts l.first (map (as_mark l.source) l.rest) remaining → Cuts 0 (map (as_mark l.source) l.tokens) (with_pieces l.pieces.items remaining);
}

abbrev pub decreases-loop-rest : goal.decreases-loop-rest
decreases-loop-rest l = length l.rest
