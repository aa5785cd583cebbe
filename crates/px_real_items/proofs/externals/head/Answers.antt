use Rattle.std.proofs.lemmas.Result.{err_from_is_err_and}
use Rattle.px_real_symbols.specs.Symbols.{lexemes}
use Rattle.px_real_declarations.specs.Grammar.{IsHead}
use Rattle.px_real_declarations.specs.Names.{is_type}
use Rattle.px_real_blocks.specs.Parts.{no_types}
use Rattle.px_real_declaring.specs.Items.{nesting_limit}
use Rattle.px_real_members.specs.Trees.{head_tree}
use Rattle.px_real_names.specs.Behind.{of_head}
use Rattle.px_real_items.proofs.ExternalLemmas.{none_here, no_head_here}
use Rattle.px_real_items.proofs.externals.head.Goals as goal

pub returns-in_err-head : goal.returns-in_err-head
returns-in_err-head c =
    let p = err_from_is_err_and c.from_residual.result c.from_residual.ensures.1 in
    rw (p.1, p.2) (none_here (IsHead (is_type c.args.names.now) nesting_limit (lexemes no_types c.args.source.now c.args.tokens.now)) of_head c.args.names.now _ c.in_err-head.ensures)

pub returns-in_err-declare_function : goal.returns-in_err-declare_function
returns-in_err-declare_function c =
    let p = err_from_is_err_and c.from_residual-in_err-declare_function.result c.from_residual-in_err-declare_function.ensures.1 in
    rw (p.1, p.2)
    (no_head_here c.args.names.now (lexemes no_types c.args.source.now c.args.tokens.now) (head_tree (lexemes no_types c.args.source.now c.args.tokens.now) c.in_ok-head.head) c.declare_function.new.self _ c.in_ok-head.ensures c.in_err-declare_function.ensures)

pub returns : goal.returns
returns c = (c.in_ok-head.ensures, c.in_ok-declare_function.ensures)
