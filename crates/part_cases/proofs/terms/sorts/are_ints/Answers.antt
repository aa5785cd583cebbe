use Rattle.std.proofs.lemmas.List.Elements.{All-more}
use Rattle.px_terms.specs.Conjuncts.{IsIntVariable}
use Rattle.px_plain.proofs.Options.{checked_all}
use Rattle.part_cases.proofs.terms.sorts.are_ints.Goals as goal

pub loop-x-preserved : goal.loop-x-preserved
loop-x-preserved c = All-more (IsIntVariable c.args.vars.now) c.args.xs.now c.loop-x.x-index 0 c.loop-x-test.true c.loop-x.invariant (c.is_int.ensures c.if-not-is_int.false)

pub returns : goal.returns
returns c = λ e. checked_all (IsIntVariable c.args.vars.now) c.args.xs.now c.loop-x.x-index c.loop-x-test.false c.loop-x.invariant
