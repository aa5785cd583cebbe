use Rattle.std.proofs.Common.{Err, ap}
use Rattle.px_real_symbols.specs.Symbols.{lexemes}
use Rattle.px_real_blocks.specs.Parts.{no_types}
use Rattle.px_real_items.proofs.ExternalLemmas.{no_body}
use Rattle.px_real_items.proofs.externals.body.Goals as goal

pub returns-in-Err-NotBraced : goal.returns-in-Err-NotBraced
returns-in-Err-NotBraced c = no_body (lexemes no_types c.args.source.now c.args.tokens.now) (c.in-Err-NotBraced.ensures.unbraced (ap (λ z. Err z) c.in-Err-NotBraced.field-0-is))
