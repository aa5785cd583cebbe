use Rattle.std.proofs.Common.{◌∙◌, sym}
use Rattle.px_entry.specs.Regular.{are_given}
use Rattle.px_regular.proofs.LoopLemmas.{given_next}
use Rattle.px_regular.proofs.variables.are_given.Goals as goal

pub loop-left-preserved : goal.loop-left-preserved
loop-left-preserved c =
    given_next c.loop-left.left c.in-Some.first.now c.loop-left.rest.now c.in-Some.others.now (are_given c.args.count c.args.vars.now) c.loop-left-test.true c.in-Some.ensures.cases.0
    (sym c.is_given_sort.ensures ∙ c.if-not-is_given_sort.false) c.loop-left.invariant
