use Rattle.std.proofs.Common.{◌≡◌, ◌∙◌, ◌+◌, ◌++◌, ◌∷◌, [], take, sym, ap, subst}
use Rattle.std.proofs.lemmas.List.{take_more}
use Rattle.px_leak.specs.Lives.{AreLives}
use Rattle.px_leak.proofs.StepLemmas.{lives_more}
use Rattle.px_leak.proofs.losses.lives.Goals as goal

pub loop-atom-preserved : goal.loop-atom-preserved
loop-atom-preserved c =
    let i = c.loop-atom.atom-index in
    let xs = c.args.atoms.now in
    let x = c.atom-item.result in
    let is : take (i + 1) xs ≡ take i xs ++ x ∷ [] = take_more xs i x c.loop-atom-test.true ∙ ap (λ z. take i xs ++ z ∷ []) (sym c.atom-item.is) in
    subst (λ ys. AreLives c.args.count ys c.mark_live.new.lives.items) (sym is) (lives_more c.args.count (take i xs) x _ _ c.loop-atom.invariant c.mark_live.ensures.size c.mark_live.ensures.marks)
