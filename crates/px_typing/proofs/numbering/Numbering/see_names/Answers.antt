use Rattle.std.proofs.Common.{◌∷◌, [], take, sym, subst}
use Rattle.px_typing.specs.Numberings.{Sees}
use Rattle.px_typing.proofs.NumberingLemmas.{sees_more, take_next}
use Rattle.px_typing.proofs.numbering.Numbering.see_names.Goals as goal

pub loop-name-preserved : goal.loop-name-preserved
loop-name-preserved c =
    subst (λ ns. Sees c.args.self.now c.see_name.new.self ns [])
    (sym (take_next c.args.names.now c.loop-name.name-index c.name-item.result c.loop-name-test.true c.name-item.is))
    (sees_more c.args.self.now c.loop-name.self c.see_name.new.self (take c.loop-name.name-index c.args.names.now) (c.name-item.result ∷ []) [] [] c.loop-name.invariant c.in_ok-see_name.ensures)
