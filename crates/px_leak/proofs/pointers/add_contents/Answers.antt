use Rattle.std.proofs.Common.{◌≡◌, ◌∙◌, ◌+◌, ◌++◌, ◌∷◌, [], take, ℕ, List, sym, ap, subst, append-nil}
use Rattle.std.specs.Prelude.{flat_map}
use Rattle.std.proofs.lemmas.Grind.{flat_map-append}
use Rattle.std.proofs.lemmas.List.{take_more}
use Rattle.px_callgraph.specs.Working.{Gains}
use Rattle.px_leak.specs.Reached.{pointed}
use Rattle.px_leak.proofs.PointerLemmas.{gains_both}
use Rattle.px_leak.proofs.pointers.add_contents.Goals as goal

pub loop-content-preserved : goal.loop-content-preserved
loop-content-preserved c =
    let i = c.loop-content.content-index in
    let xs = c.args.contents.now in
    let x = c.content-item.result in
    let f = pointed c.args.count in
    let is : take (i + 1) xs ≡ take i xs ++ x ∷ [] = take_more xs i x c.loop-content-test.true ∙ ap (λ z. take i xs ++ z ∷ []) (sym c.content-item.is) in
    let more : flat_map f (take i xs ++ x ∷ []) ≡ flat_map f (take i xs) ++ f x = flat_map-append f (take i xs) (x ∷ []) ∙ ap (λ (ys : List ℕ). flat_map f (take i xs) ++ ys) (append-nil (f x)) in
    subst (λ ys. Gains c.args.graph.now c.args.from ys c.add_content.new.graph) (sym more ∙ ap (flat_map f) (sym is))
    (gains_both c.args.graph.now c.loop-content.graph c.add_content.new.graph c.args.from (flat_map f (take i xs)) (f x) c.loop-content.invariant c.in_ok-add_content.ensures)
