use Rattle.std.proofs.Common.{[], subst}
use Rattle.px_bodies.specs.Environment.{environment_of}
use Rattle.px_typing.specs.MentionViews.{mention_of}
use Rattle.px_typing.specs.Numberings.{Sees}
use Rattle.px_typing.specs.Programs.{called_blocks}
use Rattle.px_typing.proofs.NumberingLemmas.{sees_next_types}
use Rattle.px_typing.proofs.numbering.Numbering.see_results.Goals as goal

pub loop-i-preserved : goal.loop-i-preserved
loop-i-preserved c =
    sees_next_types mention_of c.args.mentions.now c.loop-i.i c.index-mentions-i.result c.loop-i-test.true c.index-mentions-i.is
    c.args.self.now c.loop-i.self c.see_called.new.self (called_blocks (environment_of c.args.self.now.environment).signature) c.loop-i.invariant
    (subst (λ s. Sees c.loop-i.self c.see_called.new.self [] (called_blocks s (mention_of c.index-mentions-i.result))) c.loop-i.invariant.signature c.in_ok-see_called.ensures)
