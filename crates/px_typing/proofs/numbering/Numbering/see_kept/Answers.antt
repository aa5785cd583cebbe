use Rattle.px_typing.specs.ItemViews.{judged_of}
use Rattle.px_typing.specs.Programs.{kept_name}
use Rattle.px_typing.proofs.NumberingLemmas.{sees_next_name}
use Rattle.px_typing.proofs.numbering.Numbering.see_kept.Goals as goal

pub loop-i-preserved : goal.loop-i-preserved
loop-i-preserved c =
    sees_next_name judged_of c.args.judged.now c.loop-i.i c.index-judged-i.result c.loop-i-test.true c.index-judged-i.is
    c.args.self.now c.loop-i.self c.see_kept_item.new.self kept_name c.loop-i.invariant c.in_ok-see_kept_item.ensures
