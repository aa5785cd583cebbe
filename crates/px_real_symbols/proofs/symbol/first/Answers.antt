use Rattle.px_real_symbols.specs.Symbols.{see}
use Rattle.px_real_symbols.proofs.FrontLemmas.{first_at}
use Rattle.px_real_symbols.proofs.symbol.first.Goals as goal

pub returns-then-at-on : goal.returns-then-at-on
returns-then-at-on c = first_at (see c.args.on.source.now) c.args.on.symbols.now c.args.at _ c.if-at-on.true
