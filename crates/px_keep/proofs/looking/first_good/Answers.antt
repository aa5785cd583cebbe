use Rattle.std.proofs.Common.{◌<◌, ◌-◌, length, arith}
use Rattle.px_callgraph.specs.JobTree.{job_tree}
use Rattle.px_pieces.specs.Pieces.{table_from}
use Rattle.px_keep.proofs.GoodLemmas.{from_end, goes_on, first_at, all_no_good}
use Rattle.px_keep.proofs.looking.first_good.Goals as goal

pub loop-end-init : goal.loop-end-init
loop-end-init c = from_end (job_tree c.args.job.now) c.args.items.now c.args.kept c.args.chains.now c.requires.lent c.requires.keys c.requires.proc c.end_of-end.result c.end_of-end.ensures

pub returns-in-Some-clause-first : goal.returns-in-Some-clause-first
returns-in-Some-clause-first c =
    let good = rw c.in-Some.is at c.in_ok-answer.ensures.good in
    let inside : length c.args.items.now - c.loop-end.end < length c.args.items.now = (let w = c.loop-end.invariant.within in let t = c.loop-end-test.true in omega arith) in
    first_at (job_tree c.args.job.now) c.args.items.now (length c.args.items.now - c.loop-end.end) _ (table_from c.in-Some.answer.entries c.in-Some.answer.drops) inside c.loop-end.invariant.none good

pub loop-end-preserved : goal.loop-end-preserved
loop-end-preserved c =
    let none = rw c.in_default.is at c.in_ok-answer.ensures.none in
    goes_on (job_tree c.args.job.now) c.args.items.now c.args.kept c.args.chains.now c.requires.lent c.requires.keys c.requires.proc c.loop-end.end c.end_before-end.result _ c.loop-end-test.true c.loop-end.invariant
    none c.end_before-end.ensures

pub returns-clause-none : goal.returns-clause-none
returns-clause-none c =
    let t = c.loop-end-test.false in
    all_no_good (job_tree c.args.job.now) c.args.items.now (length c.args.items.now - c.loop-end.end) (omega arith) c.loop-end.invariant.none
