use Rattle.std.proofs.Common.{arith}
use Rattle.px_real_symbols.specs.Symbols.{lexeme}
use Rattle.px_real_blocks.specs.Parts.{no_types}
use Rattle.px_real_names.proofs.NameLemmas.{held_of}
use Rattle.px_real_names.proofs.enumerated.within.Goals as goal

pub returns : goal.returns
returns c = held_of (lexeme no_types c.args.on.source.now) c.args.on.tokens.now c.skip-behind.result.now c.some_first.result.now c.args.held.first c.args.held.after _ c.skip-behind.ensures c.some_first.ensures (omega arith)
