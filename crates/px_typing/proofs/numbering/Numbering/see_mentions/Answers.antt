use Rattle.px_typing.specs.MentionViews.{mention_of}
use Rattle.px_typing.specs.Programs.{mentioned_name, mentioned_blocks}
use Rattle.px_typing.proofs.NumberingLemmas.{sees_next}
use Rattle.px_typing.proofs.numbering.Numbering.see_mentions.Goals as goal

pub loop-i-preserved : goal.loop-i-preserved
loop-i-preserved c =
    sees_next mention_of c.args.mentions.now c.loop-i.i c.index-mentions-i.result c.loop-i-test.true c.index-mentions-i.is
    c.args.self.now c.loop-i.self c.see_mentioned.new.self mentioned_name mentioned_blocks c.loop-i.invariant c.in_ok-see_mentioned.ensures
