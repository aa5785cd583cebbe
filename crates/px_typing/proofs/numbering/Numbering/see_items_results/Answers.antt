use Rattle.std.proofs.Common.{◌∷◌, [], flat_map, subst}
use Rattle.px_bodies.specs.Environment.{environment_of}
use Rattle.px_typing.specs.ItemViews.{judged_of}
use Rattle.px_typing.specs.Numberings.{Sees}
use Rattle.px_typing.specs.Programs.{mentions, called_blocks}
use Rattle.px_typing.proofs.NumberingLemmas.{sees_next_results}
use Rattle.px_typing.proofs.numbering.Numbering.see_items_results.Goals as goal

pub loop-i-preserved : goal.loop-i-preserved
loop-i-preserved c =
    sees_next_results c.args.judged.now c.loop-i.i c.index-judged-i.result c.loop-i-test.true c.index-judged-i.is
    c.args.self.now c.loop-i.self c.see_item_results.new.self (called_blocks (environment_of c.args.self.now.environment).signature) c.loop-i.invariant
    (subst (λ s. Sees c.loop-i.self c.see_item_results.new.self [] (flat_map (called_blocks s) (mentions (judged_of c.index-judged-i.result ∷ [])))) c.loop-i.invariant.signature
    c.in_ok-see_item_results.ensures)
