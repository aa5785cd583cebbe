use Rattle.std.proofs.Common.{◌≡◌, ◌≤◌, ◌+◌, Result, length, length-drop, Err, subst, ap, ◌∙◌, arith}
use Rattle.std.proofs.lemmas.Result.{err_from_is_err_and}
use Rattle.px_lexer.specs.Lent.{as_tokens}
use Rattle.px_cutting.specs.Cutting.{Cuts, IsFirstItem}
use Rattle.px_cutting.proofs.CuttingExact.{item_more, all_cut}
use Rattle.px_cutting.proofs.cutting.items.Goals as goal

pub returns-in_err-count-clause-unbalanced : goal.returns-in_err-count-clause-unbalanced
returns-in_err-count-clause-unbalanced c = λ place h.
    let p = err_from_is_err_and c.from_residual.result c.from_residual.ensures.1 in
    c.loop-first.invariant.so_far (Err place) (subst (λ z. Cuts c.loop-first.first z (Err place)) c.skip.ensures
    (c.in_err-count.ensures.unbalanced place (ap (λ z. Err z) (err_is _ _ _ (p.1 ∙ ap (λ z. Err z) p.2) h)) c.loop-first.first))
  where
    err_is : {T E : Type 0} (r : Result T E) (a b : E) → r ≡ Err a → r ≡ Err b → a ≡ b
    err_is r a b h g = cc

pub loop-first-preserved : goal.loop-first-preserved
loop-first-preserved c =
    let f = subst (λ z. IsFirstItem z c.in_ok-count.count) c.skip.ensures c.in_ok-count.ensures.found in
    let fits : c.loop-first.first + c.in_ok-count.count ≤ length (as_tokens c.args.tokens) = omega (arith, f.1, length-drop c.loop-first.first (as_tokens c.args.tokens), c.loop-first-test.true) in
    record {
      within = fits;
      so_far = λ remaining cut. rw c.in_ok-push.ensures.items (item_more (as_tokens c.args.tokens) c.loop-first.spans.items c.loop-first.first c.in_ok-count.count f c.loop-first.invariant.so_far remaining cut);
    }

pub returns-clause-cut : goal.returns-clause-cut
returns-clause-cut c = all_cut (as_tokens c.args.tokens) c.loop-first.spans.items c.loop-first.first (subst (λ n. n ≤ c.loop-first.first) c.len.ensures c.loop-first-test.false) c.loop-first.invariant.so_far
