use Rattle.std.proofs.lemmas.Result.{err_from_is_err_and}
use Rattle.px_real_symbols.specs.Symbols.{lexemes}
use Rattle.px_real_declarations.specs.Grammar.{IsDeclaration}
use Rattle.px_real_declarations.specs.Names.{is_type}
use Rattle.px_real_blocks.specs.Parts.{no_types}
use Rattle.px_real_declaring.specs.Items.{nesting_limit}
use Rattle.px_real_declaring.specs.Trees.{declaration_tree}
use Rattle.px_real_items.specs.Trees.{itself}
use Rattle.px_real_items.proofs.ExternalLemmas.{none_here, no_declaration_here}
use Rattle.px_real_items.proofs.externals.declaration.Goals as goal

pub returns-in_err-declaration : goal.returns-in_err-declaration
returns-in_err-declaration c =
    let p = err_from_is_err_and c.from_residual.result c.from_residual.ensures.1 in
    rw (p.1, p.2) (none_here (IsDeclaration (is_type c.args.names.now) nesting_limit (lexemes no_types c.args.source.now c.args.tokens.now)) itself c.args.names.now _ c.in_err-declaration.ensures)

pub returns-in_err-declare : goal.returns-in_err-declare
returns-in_err-declare c =
    let p = err_from_is_err_and c.from_residual-in_err-declare.result c.from_residual-in_err-declare.ensures.1 in
    rw (p.1, p.2)
    (no_declaration_here c.args.names.now (lexemes no_types c.args.source.now c.args.tokens.now) (declaration_tree (lexemes no_types c.args.source.now c.args.tokens.now) c.in_ok-declaration.declaration) c.declare.new.self _ c.in_ok-declaration.ensures c.in_err-declare.ensures)

pub returns : goal.returns
returns c = (c.in_ok-declaration.ensures, c.in_ok-declare.ensures)
