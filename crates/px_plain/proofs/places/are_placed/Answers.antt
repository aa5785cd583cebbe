use Rattle.std.proofs.Common.{◌+◌, arith, below_more}
use Rattle.px_plain.specs.Places.{IsPlaced}
use Rattle.px_plain.proofs.places.are_placed.Goals as goal

pub returns-then-is_misplaced-clause-no : goal.returns-then-is_misplaced-clause-no
returns-then-is_misplaced-clause-no c = λ e val a f. c.is_misplaced.ensures.yes c.if-is_misplaced.true val a (f (c.loop-x.x + 1) (omega arith))

pub loop-x-preserved : goal.loop-x-preserved
loop-x-preserved c = below_more (IsPlaced c.args.vars.now c.args.numbers.now) c.loop-x.x c.loop-x.invariant (c.is_misplaced.ensures.no c.if-is_misplaced.false)
