use Rattle.std.proofs.Common.{◌≡◌, ◌+◌, drop, option_map, false}
use Rattle.px_real_tokens.specs.Scanning.{quote_end}
use Rattle.px_real_tokens.proofs.ends.quote_end.Given as goal

abbrev pub invariant-loop-index : goal.invariant-loop-index
invariant-loop-index l = quote_end l.quote false l.bytes ≡ option_map (λ n. l.index + n) (quote_end l.quote l.escaped (drop l.index l.bytes))
