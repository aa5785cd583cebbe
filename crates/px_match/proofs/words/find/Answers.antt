use Rattle.px_terms.proofs.SubstitutionLemmas.{found, skipped, nothing_found}
use Rattle.px_match.proofs.words.find.Goals as goal

pub returns-then-pair-x : goal.returns-then-pair-x
returns-then-pair-x c = found c.args.substitution.now c.loop-pair.pair-index c.pair-item.result c.args.x c.loop-pair-test.true c.pair-item.is c.if-pair-x.true c.loop-pair.invariant

pub loop-pair-preserved : goal.loop-pair-preserved
loop-pair-preserved c = skipped c.args.substitution.now c.loop-pair.pair-index c.pair-item.result c.args.x c.loop-pair-test.true c.pair-item.is c.if-pair-x.false c.loop-pair.invariant

pub returns : goal.returns
returns c = nothing_found c.args.substitution.now c.loop-pair.pair-index c.args.x c.loop-pair-test.false c.loop-pair.invariant
