use Rattle.std.proofs.Common.{map}
use Rattle.std.proofs.lemmas.Result.{err_from_is_err_and}
use Rattle.px_real_symbols.specs.Symbols.{lexeme, lexemes}
use Rattle.px_real_blocks.specs.Parts.{no_types}
use Rattle.px_real_blocks.specs.Trees.{statement_tree}
use Rattle.px_real_members.specs.Trees.{head_tree}
use Rattle.px_real_items.proofs.ExternalLemmas.{seen_first, seen_rest, bodiless_here, headless_here, function_here}
use Rattle.px_real_items.proofs.externals.function.Goals as goal

pub returns-in_err-body : goal.returns-in_err-body
returns-in_err-body c =
    let p = err_from_is_err_and c.from_residual.result c.from_residual.ensures.1 in
    rw (p.1, p.2)
    (bodiless_here c.args.names.now (lexemes no_types c.args.source.now c.args.tokens.now) (lexemes no_types c.args.source.now c.skip.result.now) c.args.start _ (seen_rest (lexeme no_types c.args.source.now) c.args.tokens.now c.skip.result.now c.args.start c.skip.ensures) c.in_err-body.ensures)

pub returns-in_err-head : goal.returns-in_err-head
returns-in_err-head c =
    let p = err_from_is_err_and c.from_residual-in_err-head.result c.from_residual-in_err-head.ensures.1 in
    rw (p.1, p.2)
    (headless_here c.args.names.now (lexemes no_types c.args.source.now c.args.tokens.now) (lexemes no_types c.args.source.now c.some_first.result.now) c.args.start c.head.new.names _ (seen_first (lexeme no_types c.args.source.now) c.args.tokens.now c.some_first.result.now c.args.start c.some_first.ensures) c.in_err-head.ensures)

pub returns : goal.returns
returns c =
    function_here c.args.names.now (lexemes no_types c.args.source.now c.args.tokens.now) (lexemes no_types c.args.source.now c.some_first.result.now) (lexemes no_types c.args.source.now c.skip.result.now) c.args.start
    (λ z. head_tree z c.in_ok-head.head) (λ z. map (statement_tree z) c.in_ok-body.body.items) c.head.new.names
    (seen_first (lexeme no_types c.args.source.now) c.args.tokens.now c.some_first.result.now c.args.start c.some_first.ensures) (seen_rest (lexeme no_types c.args.source.now) c.args.tokens.now c.skip.result.now c.args.start c.skip.ensures)
    c.in_ok-head.ensures.0 c.in_ok-body.ensures c.in_ok-head.ensures.1
