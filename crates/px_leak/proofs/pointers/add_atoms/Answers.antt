use Rattle.std.proofs.Common.{◌≡◌, ◌∙◌, ◌+◌, ◌++◌, ◌∷◌, [], take, sym, ap, subst}
use Rattle.std.proofs.lemmas.List.{take_more}
use Rattle.px_leak.specs.Pointers.{GainsCells}
use Rattle.px_leak.proofs.PointerLemmas.{cells_both}
use Rattle.px_leak.proofs.pointers.add_atoms.Goals as goal

pub loop-atom-preserved : goal.loop-atom-preserved
loop-atom-preserved c =
    let i = c.loop-atom.atom-index in
    let xs = c.args.atoms.now in
    let x = c.atom-item.result in
    let is : take (i + 1) xs ≡ take i xs ++ x ∷ [] = take_more xs i x c.loop-atom-test.true ∙ ap (λ z. take i xs ++ z ∷ []) (sym c.atom-item.is) in
    subst (λ ys. GainsCells c.args.count c.args.graph.now ys c.add_atom.new.graph) (sym is)
    (cells_both c.args.count c.args.graph.now c.loop-atom.graph c.add_atom.new.graph (take i xs) (x ∷ []) c.loop-atom.invariant c.in_ok-add_atom.ensures)
