use Rattle.px_book.proofs.HeldLemmas.{held_more, none_held}
use Rattle.px_book.proofs.held.some_held.Goals as goal

pub loop-proc-preserved : goal.loop-proc-preserved
loop-proc-preserved c =
    held_more c.args.statuses.now c.args.held.now c.loop-proc.proc-index c.loop-proc.invariant (c.is_held.ensures.none c.if-is_held.false)

pub returns-clause-none : goal.returns-clause-none
returns-clause-none c = λ e ticket f. none_held c.args.statuses.now c.args.held.now c.loop-proc.proc-index c.requires c.loop-proc-test.false c.loop-proc.invariant ticket f
