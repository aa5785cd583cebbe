use Rattle.px_interval.proofs.interval.IntervalDomain.refutes.Goals as goal

pub rule_out-requires : goal.rule_out-requires
rule_out-requires c = (c.args.conjuncts.now, c.in_ok-gaps.ensures)

pub returns-clause-answer : goal.returns-clause-answer
returns-clause-answer c = c.rule_out.ensures c.args.conjuncts.now c.in_ok-gaps.ensures
