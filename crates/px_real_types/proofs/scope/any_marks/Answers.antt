use Rattle.std.proofs.Common.{sym, ap, ◌∙◌, arith}
use Rattle.px_expressions.specs.Terminals.{is_in}
use Rattle.px_real_symbols.specs.Symbols.{lexeme}
use Rattle.px_real_blocks.specs.Parts.{no_types}
use Rattle.px_real_types.specs.Words.{words_of}
use Rattle.px_real_types.proofs.AttributeLemmas.{spoils_here, spoils_not_here}
use Rattle.px_real_types.proofs.scope.any_marks.Goals as goal

pub returns-then-is_mark : goal.returns-then-is_mark
returns-then-is_mark c =
    spoils_here c.args.mark (lexeme no_types c.args.on.source.now) c.args.on.tokens.now c.args.held.after c.loop-at.at _ (omega (arith, c.loop-at-test.true, c.if-at-on.true)) (omega (arith, c.loop-at-test.true, c.if-at-on.true))
    (sym (c.if-is_mark.ensures ∙ ap (is_in (words_of c.args.mark)) c.text.ensures)) c.loop-at.invariant

pub loop-at-preserved : goal.loop-at-preserved
loop-at-preserved c =
    spoils_not_here c.args.mark (lexeme no_types c.args.on.source.now) c.args.on.tokens.now c.args.held.after c.loop-at.at _ (omega (arith, c.loop-at-test.true, c.if-at-on.true)) (omega (arith, c.loop-at-test.true, c.if-at-on.true))
    (sym (c.if-is_mark.ensures ∙ ap (is_in (words_of c.args.mark)) c.text.ensures)) c.loop-at.invariant
