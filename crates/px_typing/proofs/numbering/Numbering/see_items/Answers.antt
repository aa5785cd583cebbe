use Rattle.px_typing.specs.Programs.{mentioned_name, mentioned_blocks}
use Rattle.px_typing.proofs.NumberingLemmas.{sees_next_item}
use Rattle.px_typing.proofs.numbering.Numbering.see_items.Goals as goal

pub loop-i-preserved : goal.loop-i-preserved
loop-i-preserved c =
    sees_next_item c.args.judged.now c.loop-i.i c.index-judged-i.result c.loop-i-test.true c.index-judged-i.is
    c.args.self.now c.loop-i.self c.see_item.new.self mentioned_name mentioned_blocks c.loop-i.invariant c.in_ok-see_item.ensures
