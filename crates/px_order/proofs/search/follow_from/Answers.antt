use Rattle.std.proofs.Common.{◌-◌, subst}
use Rattle.px_chains.specs.Ends.{IsEndOfKey}
use Rattle.px_order.specs.Comparisons.{comparison_at}
use Rattle.px_order.specs.Searches.{Raises}
use Rattle.px_order.proofs.Following.{follows_begin, follows_more, follows_end}
use Rattle.px_order.proofs.search.follow_from.Goals as goal

pub loop-end-init : goal.loop-end-init
loop-end-init c =
    follows_begin c.args.comparisons.now c.args.firsts.now c.requires.chained c.args.variable c.args.marks.now c.args.reached.now.items c.end_of-end.result c.requires.listed c.end_of-end.ensures

pub loop-end-preserved : goal.loop-end-preserved
loop-end-preserved c =
    follows_more c.args.comparisons.now c.args.firsts.now c.requires.chained c.args.variable c.args.marks.now c.loop-end.marks c.raise.new.marks
    c.args.reached.now.items c.loop-end.reached.items c.raise.new.reached.items c.loop-end.end c.end_before-end.result c.requires.below c.loop-end-test.true c.loop-end.invariant
    (subst (λ m. Raises (comparison_at c.args.comparisons.now (c.loop-end.end - 1)).second m c.loop-end.marks c.raise.new.marks c.loop-end.reached.items c.raise.new.reached.items)
    c.carried.ensures c.in_ok-raise.ensures.raised)
    (subst (λ x. IsEndOfKey c.args.firsts.now x (c.loop-end.end - 1) c.end_before-end.result) (c.loop-end.invariant.here c.loop-end-test.true) c.end_before-end.ensures)

pub returns-clause-handled : goal.returns-clause-handled
returns-clause-handled c =
    follows_end c.args.comparisons.now c.args.firsts.now c.requires.chained c.args.variable c.args.marks.now c.loop-end.marks c.args.reached.now.items c.loop-end.reached.items c.loop-end.end
    c.loop-end-test.false c.loop-end.invariant
