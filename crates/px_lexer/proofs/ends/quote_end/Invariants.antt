use Rattle.std.proofs.Common.{◌≡◌, ◌+◌, drop, option_map, false}
use Rattle.px_lexer.specs.Scanning.{quote_end}
use Rattle.px_lexer.proofs.ends.quote_end.Given as goal

abbrev pub invariant-loop-index : goal.invariant-loop-index
invariant-loop-index l = quote_end l.quote false l.bytes ≡ option_map (λ n. l.index + n) (quote_end l.quote l.escaped (drop l.index l.bytes))
