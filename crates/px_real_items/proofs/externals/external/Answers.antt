use Rattle.std.proofs.Common.{refl, sym, ◌∙◌}
use Rattle.px_real_symbols.specs.Symbols.{lexemes}
use Rattle.px_real_blocks.specs.Parts.{no_types}
use Rattle.px_real_items.proofs.ExternalLemmas.{function_read, neither}
use Rattle.px_real_items.proofs.externals.external.Goals as goal

pub returns-in-Semicolon : goal.returns-in-Semicolon
returns-in-Semicolon c = c.declared.ensures (sym c.in_ok-end_of.ensures ∙ c.in-Semicolon.is)

pub returns-in-Body : goal.returns-in-Body
returns-in-Body c = function_read c.args.names.now (lexemes no_types c.args.source.now c.args.tokens.now) c.in-Body.start c.function.new.names c.function.result (sym c.in_ok-end_of.ensures ∙ c.in-Body.is) c.function.ensures

pub returns-in-Neither : goal.returns-in-Neither
returns-in-Neither c = (neither c.args.names.now (lexemes no_types c.args.source.now c.args.tokens.now) (sym c.in_ok-end_of.ensures ∙ c.in-Neither.is), refl)
