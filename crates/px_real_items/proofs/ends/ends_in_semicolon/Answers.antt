use Rattle.std.proofs.Common.{◌-◌, length, sym, ◌∙◌, arith}
use Rattle.px_real_symbols.specs.Symbols.{see}
use Rattle.px_real_items.proofs.EndLemmas.{last_is, no_last}
use Rattle.px_real_items.proofs.ends.ends_in_semicolon.Goals as goal

pub returns-then-count-eq0 : goal.returns-then-count-eq0
returns-then-count-eq0 c = sym (no_last (see c.args.on.source.now) c.args.on.symbols.now (omega (arith, c.if-count-eq0.true)))

pub returns : goal.returns
returns c = c.eq.ensures ∙ sym (last_is (see c.args.on.source.now) c.args.on.symbols.now (length c.args.on.symbols.now - 1) (omega (arith, c.if-count-eq0.false)))
