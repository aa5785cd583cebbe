use Rattle.std.proofs.Common.{arith}
use Rattle.px_real_symbols.specs.Symbols.{lexeme, lexemes}
use Rattle.px_real_blocks.specs.Parts.{no_types}
use Rattle.px_real_declaring.specs.Trees.{declaration_tree}
use Rattle.px_real_items.proofs.ExternalLemmas.{seen_but_last, declaration_here, undeclared_here}
use Rattle.px_real_items.proofs.externals.declared.Goals as goal

pub returns-in-Ok : goal.returns-in-Ok
returns-in-Ok c = λ ends.
    declaration_here c.args.names.now (lexemes no_types c.args.source.now c.args.tokens.now) (lexemes no_types c.args.source.now c.some_first-before.result.now) (λ z. declaration_tree z c.in-Ok.declaration) c.declaration.new.names ends
    (seen_but_last (lexeme no_types c.args.source.now) c.args.tokens.now c.some_first-before.result.now _ c.some_first-before.ensures (omega arith))
    c.in-Ok.ensures.0 c.in-Ok.ensures.1

pub returns-in-Err : goal.returns-in-Err
returns-in-Err c = λ ends.
    undeclared_here c.args.names.now (lexemes no_types c.args.source.now c.args.tokens.now) (lexemes no_types c.args.source.now c.some_first-before.result.now) c.declaration.new.names c.in-Err.fault ends
    (seen_but_last (lexeme no_types c.args.source.now) c.args.tokens.now c.some_first-before.result.now _ c.some_first-before.ensures (omega arith))
    c.in-Err.ensures
