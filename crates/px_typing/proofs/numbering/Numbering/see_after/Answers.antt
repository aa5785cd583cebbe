use Rattle.std.proofs.Common.{◌∷◌, [], subst}
use Rattle.px_typing.specs.Numberings.{Sees}
use Rattle.px_typing.proofs.NumberingLemmas.{sees_nothing, sees_after}
use Rattle.px_typing.proofs.numbering.Numbering.see_after.Goals as goal

pub loop-n-init : goal.loop-n-init
loop-n-init c = sees_nothing c.args.self.now

pub loop-n-preserved : goal.loop-n-preserved
loop-n-preserved c =
    sees_after c.args.self.now c.loop-n.self c.see_type.new.self c.args.base.now c.loop-n.n c.loop-n.invariant
    (subst (λ t. Sees c.loop-n.self c.see_type.new.self [] (t ∷ [])) c.new.ensures c.in_ok-see_type.ensures)
