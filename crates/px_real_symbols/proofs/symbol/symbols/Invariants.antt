use Rattle.std.proofs.Common.{◌≡◌, ◌++◌, map, drop}
use Rattle.px_real_symbols.specs.Symbols.{lexemes, see}
use Rattle.px_real_symbols.proofs.symbol.symbols.Given as goal

abbrev pub invariant-loop-token : goal.invariant-loop-token
invariant-loop-token g l =
    map (see l.source) l.symbols.items ++ lexemes (g.T.TypeNames.named l.types) l.source (drop l.token-index l.tokens) ≡ lexemes (g.T.TypeNames.named l.types) l.source l.tokens
