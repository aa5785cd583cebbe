use Rattle.std.proofs.Common.{◌∷◌, [], take, sym, subst}
use Rattle.px_typing.specs.Numberings.{Sees}
use Rattle.px_typing.proofs.NumberingLemmas.{sees_more, take_next}
use Rattle.px_typing.proofs.numbering.Numbering.see_types.Goals as goal

pub loop-of-preserved : goal.loop-of-preserved
loop-of-preserved c =
    subst (λ ts. Sees c.args.self.now c.see_type.new.self [] ts)
    (sym (take_next c.args.types.now c.loop-of.of-index c.of-item.result c.loop-of-test.true c.of-item.is))
    (sees_more c.args.self.now c.loop-of.self c.see_type.new.self [] [] (take c.loop-of.of-index c.args.types.now) (c.of-item.result ∷ []) c.loop-of.invariant
    (subst (λ t. Sees c.loop-of.self c.see_type.new.self [] (t ∷ [])) c.of.ensures c.in_ok-see_type.ensures))
