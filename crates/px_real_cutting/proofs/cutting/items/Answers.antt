use Rattle.std.proofs.Common.{◌≡◌, Result, Err, refl, ap, subst, ◌∙◌}
use Rattle.std.proofs.lemmas.Result.{err_from_is_err_and}
use Rattle.px_real_cutting.specs.Items.{Items, is_cut, is_stopped}
use Rattle.px_real_cutting.proofs.cutting.items.Goals as goal

pub returns-in_err-pieces-clause-unbalanced : goal.returns-in_err-pieces-clause-unbalanced
returns-in_err-pieces-clause-unbalanced c = λ place h.
    let p = err_from_is_err_and c.from_residual.result c.from_residual.ensures.1 in
    is_stopped place (c.in_err-pieces.ensures.unbalanced place (ap (λ z. Err z) (err_is _ _ _ (p.1 ∙ ap (λ z. Err z) p.2) h))) refl
  where
    err_is : {T E : Type 0} (r : Result T E) (a b : E) → r ≡ Err a → r ≡ Err b → a ≡ b
    err_is r a b h g = cc

pub returns-clause-cut : goal.returns-clause-cut
returns-clause-cut c = is_cut c.in_ok-pieces.pieces.items c.in_ok-items.items.items c.in_ok-pieces.ensures.cut (subst (λ z. Items z c.in_ok-items.items.items) c.deref.ensures.value c.in_ok-items.ensures) refl
