use Rattle.px_plain.proofs.Marking.{other_sort, one_marked}
use Rattle.px_plain.proofs.marks.mark_unwritten.Goals as goal
use Rattle.px_terms.proofs.Tests.{never_both}

pub returns-then-not-is_cell : goal.returns-then-not-is_cell
returns-then-not-is_cell c =
    let i = c.loop-i.i in
    other_sort c.args.vars.now c.args.unwritten.now i c.loop-i-test.true (c.requires.some i c.loop-i-test.true) (c.requires.inside i c.loop-i-test.true)
    (λ q. never_both c.is_cell.result (c.is_cell.ensures.1 q) c.if-not-is_cell.true)

pub loop-i-preserved : goal.loop-i-preserved
loop-i-preserved c =
    let i = c.loop-i.i in
    one_marked c.args.vars.now c.args.unwritten.now i c.loop-i-test.true (c.requires.some i c.loop-i-test.true) (c.requires.inside i c.loop-i-test.true)
    c.loop-i.marks.items c.loop-i.invariant (c.is_cell.ensures.0 c.if-not-is_cell.false)
