use Rattle.std.proofs.Common.{◌≡◌, sym, ◌∙◌}
use Rattle.px_real_symbols.specs.Symbols.{lexeme, lexemes}
use Rattle.px_real_blocks.specs.Parts.{no_types}
use Rattle.px_real_declaring.specs.declared.reading.DeclarationFault.TheVariants as D
use Rattle.px_real_items.proofs.FileLemmas.{seen_of, item_read, item_unread}
use Rattle.px_real_items.proofs.reading.file_item.Goals as goal

pub returns-in-Ok-clause-read : goal.returns-in-Ok-clause-read
returns-in-Ok-clause-read c =
    item_read (lexemes no_types c.args.source.now c.args.tokens.now) (lexemes no_types c.args.source.now c.tokens_of.result.now) c.args.names.now c.external.new.names c.args.item c.in-Ok.external
    (seen_of (lexeme no_types c.args.source.now) c.args.tokens.now c.tokens_of.result.now c.args.item c.tokens_of.ensures) c.in-Ok.ensures

pub returns-in-Err-NotADeclaration-clause-read : goal.returns-in-Err-NotADeclaration-clause-read
returns-in-Err-NotADeclaration-clause-read c =
    item_unread (lexemes no_types c.args.source.now c.args.tokens.now) (lexemes no_types c.args.source.now c.tokens_of.result.now) c.args.names.now c.external.new.names c.args.item c.in-Err-NotADeclaration.field-0
    (seen_of (lexeme no_types c.args.source.now) c.args.tokens.now c.tokens_of.result.now c.args.item c.tokens_of.ensures)
    (λ z. let other : D.NotADeclaration c.in-Err-NotADeclaration.at ≡ D.NoMemory = sym c.in-Err-NotADeclaration.field-0-is ∙ z in cc)
    c.in-Err-NotADeclaration.ensures

pub returns-in-Err-Deep-clause-read : goal.returns-in-Err-Deep-clause-read
returns-in-Err-Deep-clause-read c =
    item_unread (lexemes no_types c.args.source.now c.args.tokens.now) (lexemes no_types c.args.source.now c.tokens_of.result.now) c.args.names.now c.external.new.names c.args.item c.in-Err-Deep.field-0
    (seen_of (lexeme no_types c.args.source.now) c.args.tokens.now c.tokens_of.result.now c.args.item c.tokens_of.ensures)
    (λ z. let other : D.Deep c.in-Err-Deep.at ≡ D.NoMemory = sym c.in-Err-Deep.field-0-is ∙ z in cc)
    c.in-Err-Deep.ensures
