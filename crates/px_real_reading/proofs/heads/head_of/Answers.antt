use Rattle.std.proofs.Common.{drop}
use Rattle.px_real_symbols.specs.Symbols.{see, seen}
use Rattle.px_real_reading.proofs.HeadLemmas.{prefix_shut}
use Rattle.px_real_reading.proofs.heads.head_of.Goals as goal

pub returns-then-not-may_open : goal.returns-then-not-may_open
returns-then-not-may_open c =
    prefix_shut c.args.only c.args.may_open (drop c.args.at (seen c.args.on)) (c.in-Some.operator, see c.args.on.source.now c.in-Some.symbol, drop c.in-Some.next (seen c.args.on)) c.in-Some.ensures c.if-not-may_open.true
