use Rattle.px_book.proofs.CallerLemmas.{turned_more}
use Rattle.px_book.proofs.callers.callers_in.Goals as goal

pub loop-number-preserved : goal.loop-number-preserved
loop-number-preserved c =
    let h = c.in_ok-add_caller.ensures in
    turned_more c.args.graph.now c.loop-number.callers c.add_caller.new.callers c.callees.result.now c.loop-number.number c.loop-number.invariant c.callees.ensures h.size h.old h.added
