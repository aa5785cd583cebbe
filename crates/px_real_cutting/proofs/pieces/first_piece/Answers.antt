use Rattle.std.proofs.Common.{Err, refl, subst, map}
use Rattle.px_real_cutting.specs.Roles.{as_mark}
use Rattle.px_real_cutting.specs.Pieces.{Cuts}
use Rattle.px_real_cutting.proofs.PiecesExact.{piece_found, fits_found, stop_found, end_found, fault_site}
use Rattle.px_real_cutting.proofs.pieces.first_piece.Goals as goal

pub returns-in-Ends-clause-found : goal.returns-in-Ends-clause-found
returns-in-Ends-clause-found c = piece_found c.args.source.now c.args.tokens.now _ _ _ c.in_ok-ending.ensures c.in-Ends.is

pub returns-in-Stops-clause-unbalanced : goal.returns-in-Stops-clause-unbalanced
returns-in-Stops-clause-unbalanced c = λ place h at.
    subst (λ z. Cuts at (map (as_mark c.args.source.now) c.args.tokens.now) (Err z)) (fault_site _ _ _ refl h)
    (stop_found c.args.source.now c.args.tokens.now _ _ c.requires c.in_ok-ending.ensures.0 c.in-Stops.is at)

pub returns-in-RunsOut-clause-unbalanced : goal.returns-in-RunsOut-clause-unbalanced
returns-in-RunsOut-clause-unbalanced c = λ place h at.
    subst (λ z. Cuts at (map (as_mark c.args.source.now) c.args.tokens.now) (Err z)) (fault_site _ _ _ refl h)
    (end_found c.args.source.now c.args.tokens.now _ _ c.requires c.first_site.ensures c.in_ok-ending.ensures.0 c.in-RunsOut.is at)

pub returns-in-Ends-clause-within : goal.returns-in-Ends-clause-within
returns-in-Ends-clause-within c = fits_found c.args.tokens.now _ _ _ c.in_ok-ending.ensures.1 c.in-Ends.is
