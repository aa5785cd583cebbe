use Rattle.std.proofs.Common.{subst}
use Rattle.px_order.specs.Comparisons.{HaveNoSolution}
use Rattle.px_order.proofs.Adding.{added_more, closed_with_all}
use Rattle.px_order.proofs.order.add_each.Goals as goal

pub returns-then-not-branch-clause-closed : goal.returns-then-not-branch-clause-closed
returns-then-not-branch-clause-closed c = λ e.
    closed_with_all c.args.kept.now c.loop-comparison.kept c.args.added.now c.loop-comparison.comparison-index c.loop-comparison-test.true c.loop-comparison.invariant.added
    (c.in_ok-add.ensures.closed c.if-not-branch.true)

pub loop-comparison-preserved : goal.loop-comparison-preserved
loop-comparison-preserved c =
    let added = c.in_ok-add.ensures.added c.if-not-branch.false in
    record {
      added = added_more c.args.kept.now c.loop-comparison.kept c.args.added.now c.loop-comparison.comparison-index c.loop-comparison-test.true c.loop-comparison.invariant.added c.add.new.self added;
      solvable = λ none. c.loop-comparison.invariant.solvable (c.in_ok-add.ensures.solvable c.if-not-branch.false (subst HaveNoSolution added none));
    }
