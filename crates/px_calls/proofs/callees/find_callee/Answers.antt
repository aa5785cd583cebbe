use Rattle.px_calls.proofs.CalleeLemmas.{found, skipped, nothing_found}
use Rattle.px_calls.proofs.callees.find_callee.Goals as goal

pub returns-then-pair-proc : goal.returns-then-pair-proc
returns-then-pair-proc c = found c.args.callees.now c.loop-pair.pair-index c.pair-item.result c.args.proc c.loop-pair-test.true c.pair-item.is c.if-pair-proc.true c.loop-pair.invariant

pub loop-pair-preserved : goal.loop-pair-preserved
loop-pair-preserved c = skipped c.args.callees.now c.loop-pair.pair-index c.pair-item.result c.args.proc c.loop-pair-test.true c.pair-item.is c.if-pair-proc.false c.loop-pair.invariant

pub returns : goal.returns
returns c = nothing_found c.args.callees.now c.loop-pair.pair-index c.args.proc c.loop-pair-test.false c.loop-pair.invariant
