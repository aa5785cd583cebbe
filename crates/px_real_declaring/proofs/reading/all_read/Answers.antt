use Rattle.std.proofs.Common.{length-drop, arith}
use Rattle.std.proofs.lemmas.List.{length-map}
use Rattle.px_real_symbols.specs.Symbols.{see, seen}
use Rattle.px_real_symbols.proofs.FrontLemmas.{drop_past}
use Rattle.px_real_declaring.proofs.WholeLemmas.{some_left, none_left}
use Rattle.px_real_declaring.proofs.reading.all_read.Goals as goal

pub returns-then-at-on : goal.returns-then-at-on
returns-then-at-on c = some_left tt _ (omega (arith, c.if-at-on.true, length-drop c.args.at (seen c.args.on), length-map c.args.on.symbols.now (see c.args.on.source.now)))

pub returns : goal.returns
returns c = none_left tt _ (drop_past (see c.args.on.source.now) c.args.on.symbols.now c.args.at (omega (arith, c.if-at-on.false)))
