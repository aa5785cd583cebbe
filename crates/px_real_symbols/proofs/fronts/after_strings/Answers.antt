use Rattle.std.proofs.Common.{◌+◌, drop, slice_index_or, sym, ◌∙◌, arith}
use Rattle.std.proofs.lemmas.Bool.{not-false, not-true}
use Rattle.px_real_expressions.specs.Lexemes.{Lexeme}
use Rattle.px_real_symbols.specs.Symbols.{see, seen}
use Rattle.px_real_symbols.proofs.FrontLemmas.{blank, drop_mapped}
use Rattle.px_real_symbols.proofs.HeldLemmas.{strings_go_on, strings_end, strings_past}
use Rattle.px_real_symbols.proofs.fronts.after_strings.Goals as goal

pub returns-then-ne : goal.returns-then-ne
returns-then-ne c =
    let t : Lexeme = see c.args.on.source.now (slice_index_or c.args.on.symbols.now c.loop-at.at blank) in
    sym (strings_end (drop c.loop-at.at (seen c.args.on)) (drop (c.loop-at.at + 1) (seen c.args.on)) t (drop_mapped (see c.args.on.source.now) c.args.on.symbols.now c.loop-at.at blank c.loop-at-test.true) (not-true _ (sym c.ne.ensures ∙ c.if-ne.true)))
    ∙ c.loop-at.invariant

pub loop-at-preserved : goal.loop-at-preserved
loop-at-preserved c =
    let t : Lexeme = see c.args.on.source.now (slice_index_or c.args.on.symbols.now c.loop-at.at blank) in
    sym (strings_go_on (drop c.loop-at.at (seen c.args.on)) (drop (c.loop-at.at + 1) (seen c.args.on)) t (drop_mapped (see c.args.on.source.now) c.args.on.symbols.now c.loop-at.at blank c.loop-at-test.true) (not-false _ (sym c.ne.ensures ∙ c.if-ne.false)))
    ∙ c.loop-at.invariant

pub returns : goal.returns
returns c = strings_past (see c.args.on.source.now) c.args.on.symbols.now c.loop-at.at c.args.start (omega (arith, c.loop-at-test.false)) c.loop-at.invariant
