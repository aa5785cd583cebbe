use Rattle.std.proofs.Common.{arith}
use Rattle.px_book.proofs.BeginLemmas.{begun_more, begun_all}
use Rattle.px_book.proofs.ready.Ready.new.Goals as goal

pub loop-number-preserved : goal.loop-number-preserved
loop-number-preserved c =
    let h = c.refresh.ensures in
    begun_more c.args.graph.now c.args.statuses.now c.loop-number.ready c.refresh.new.ready c.loop-number.number c.loop-number.invariant h.sized h.flagged h.inside h.passed h.others

pub returns : goal.returns
returns c = begun_all c.args.graph.now c.args.statuses.now c.loop-number.ready c.loop-number.number (let k = c.requires.kept in let l = c.loop-number-test.false in omega arith) c.loop-number.invariant
