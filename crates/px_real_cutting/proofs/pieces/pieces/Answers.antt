use Rattle.std.proofs.Common.{◌≡◌, Result, length, length-drop, Err, sym, ap, ◌∙◌, arith}
use Rattle.std.proofs.lemmas.Result.{err_from_is_err_and}
use Rattle.px_real_cutting.proofs.PiecesExact.{piece_more, all_cut}
use Rattle.px_real_cutting.proofs.pieces.pieces.Goals as goal

pub returns-in_err-ending-clause-unbalanced : goal.returns-in_err-ending-clause-unbalanced
returns-in_err-ending-clause-unbalanced c = λ place h.
    let p = err_from_is_err_and c.from_residual.result c.from_residual.ensures.1 in
    c.loop-rest.invariant.so_far (Err place) (c.in_err-ending.ensures.unbalanced place (ap (λ z. Err z) (err_is _ _ _ (p.1 ∙ ap (λ z. Err z) p.2) h)) c.loop-rest.first)
  where
    err_is : {T E : Type 0} (r : Result T E) (a b : E) → r ≡ Err a → r ≡ Err b → a ≡ b
    err_is r a b h g = cc

pub loop-rest-preserved : goal.loop-rest-preserved
loop-rest-preserved c = record {
  within = omega (arith, c.loop-rest.invariant.within, c.in_ok-ending.ensures.within.1, ap length c.skip-rest.ensures, length-drop c.in_ok-ending.count c.loop-rest.rest.now);
  so_far = λ remaining cut. rw c.in_ok-push.ensures.items
      (piece_more c.args.source.now c.args.tokens.now c.loop-rest.rest.now c.loop-rest.pieces.items c.in_ok-ending.ending c.loop-rest.first c.in_ok-ending.count c.in_ok-ending.ensures.found c.loop-rest.invariant.so_far remaining (rw c.skip-rest.ensures at cut));
}

pub returns-clause-cut : goal.returns-clause-cut
returns-clause-cut c =
    all_cut c.args.source.now c.args.tokens.now c.loop-rest.rest.now c.loop-rest.pieces.items c.loop-rest.first (sym c.is_empty.ensures ∙ c.loop-rest-test.false) c.loop-rest.invariant.so_far
