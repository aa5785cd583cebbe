use Rattle.std.proofs.Common.{◌≡◌, suc, ◌+◌, ◌-◌, [], slice_index_or, sym, ap, ◌∙◌, arith}
use Rattle.std.proofs.lemmas.List.{length-map}
use Rattle.std.proofs.lemmas.Result.{err_from_is_err_and}
use Rattle.px_real_expressions.specs.Lexemes.{Lexeme}
use Rattle.px_real_symbols.specs.Symbols.{see, seen, held_in}
use Rattle.px_real_statements.specs.PhraseReading.{goes_on}
use Rattle.px_real_symbols.proofs.FrontLemmas.{blank, drop_mapped}
use Rattle.px_real_blocks.specs.Turns.{outside_of, stretch_at}
use Rattle.px_real_blocks.proofs.PhraseLemmas.{phrase_start, token_of, group_err, group_read_of, phrase_ends, phrase_mismatches, answers_so, answered_is}
use Rattle.px_real_blocks.proofs.phrases.stretch.Goals as goal

pub loop-at-init : goal.loop-at-init
loop-at-init c = record { counted = omega arith; within = omega arith; so_far = phrase_start (outside_of c.args.commas) (seen c.args.on) c.args.start }

pub returns-in_err-after-in-Opens : goal.returns-in_err-after-in-Opens
unfolding stretch_at
returns-in_err-after-in-Opens c =
    let p = err_from_is_err_and c.from_residual.result c.from_residual.ensures.1 in
    let t : Lexeme = see c.args.on.source.now (slice_index_or c.args.on.symbols.now c.loop-at.at blank) in
    rw (p.1, p.2)
    (group_err c.args.commas _ (seen c.args.on) c.args.start c.loop-at.at c.loop-at.choices t c.in-Opens.close (drop_mapped (see c.args.on.source.now) c.args.on.symbols.now c.loop-at.at blank c.loop-at-test.true)
    c.in-Opens.ensures c.in_err-after-in-Opens.ensures c.loop-at.invariant.so_far)

pub loop-at-smaller-in-Opens : goal.loop-at-smaller-in-Opens
loop-at-smaller-in-Opens c =
    let t : Lexeme = see c.args.on.source.now (slice_index_or c.args.on.symbols.now c.loop-at.at blank) in
    let g = group_read_of c.args.commas (seen c.args.on) c.args.start c.loop-at.at c.in_ok-after-in-Opens.after c.loop-at.choices t c.in-Opens.close (held_in (seen c.args.on) c.in_ok-after-in-Opens.field-0-0)
    c.loop-at.invariant.within (omega (arith, c.loop-at-test.true, length-map c.args.on.symbols.now (see c.args.on.source.now)))
    (drop_mapped (see c.args.on.source.now) c.args.on.symbols.now c.loop-at.at blank c.loop-at-test.true) c.in-Opens.ensures c.in_ok-after-in-Opens.ensures c.loop-at.invariant.so_far in
    omega (arith, g.further, c.loop-at-test.true, length-map c.args.on.symbols.now (see c.args.on.source.now))

pub loop-at-preserved-in-Opens : goal.loop-at-preserved-in-Opens
loop-at-preserved-in-Opens c =
    let t : Lexeme = see c.args.on.source.now (slice_index_or c.args.on.symbols.now c.loop-at.at blank) in
    let g = group_read_of c.args.commas (seen c.args.on) c.args.start c.loop-at.at c.in_ok-after-in-Opens.after c.loop-at.choices t c.in-Opens.close (held_in (seen c.args.on) c.in_ok-after-in-Opens.field-0-0)
    c.loop-at.invariant.within (omega (arith, c.loop-at-test.true, length-map c.args.on.symbols.now (see c.args.on.source.now)))
    (drop_mapped (see c.args.on.source.now) c.args.on.symbols.now c.loop-at.at blank c.loop-at-test.true) c.in-Opens.ensures c.in_ok-after-in-Opens.ensures c.loop-at.invariant.so_far in
    record { counted = omega (arith, c.loop-at.invariant.counted, g.further); within = omega (arith, c.loop-at.invariant.within, g.further); so_far = g.so_far }

pub loop-at-preserved-in-Asks : goal.loop-at-preserved-in-Asks
loop-at-preserved-in-Asks c =
    let t : Lexeme = see c.args.on.source.now (slice_index_or c.args.on.symbols.now c.loop-at.at blank) in
    let e : suc c.loop-at.choices ≡ c.loop-at.choices + 1 = omega arith in
    record {
      counted = omega (arith, c.loop-at.invariant.counted);
      within = omega (arith, c.loop-at.invariant.within);
      so_far = token_of (outside_of c.args.commas) (seen c.args.on) c.args.start c.loop-at.at c.loop-at.choices (c.loop-at.choices + 1) t c.loop-at.invariant.within
          (drop_mapped (see c.args.on.source.now) c.args.on.symbols.now c.loop-at.at blank c.loop-at-test.true) (sym c.in-Asks.ensures ∙ ap (λ z. goes_on z []) e) c.loop-at.invariant.so_far;
    }

pub overflow_sub-choices : goal.overflow_sub-choices
overflow_sub-choices c =
    let t : Lexeme = see c.args.on.source.now (slice_index_or c.args.on.symbols.now c.loop-at.at blank) in
    let o = answers_so c.args.commas c.loop-at.choices t.terminal c.in-Answers.ensures in
    omega (arith, o)

pub loop-at-preserved-in-Answers : goal.loop-at-preserved-in-Answers
loop-at-preserved-in-Answers c =
    let t : Lexeme = see c.args.on.source.now (slice_index_or c.args.on.symbols.now c.loop-at.at blank) in
    let o = answers_so c.args.commas c.loop-at.choices t.terminal c.in-Answers.ensures in
    record {
      counted = omega (arith, c.loop-at.invariant.counted);
      within = omega (arith, c.loop-at.invariant.within);
      so_far = token_of (outside_of c.args.commas) (seen c.args.on) c.args.start c.loop-at.at c.loop-at.choices (c.loop-at.choices - 1) t c.loop-at.invariant.within
          (drop_mapped (see c.args.on.source.now) c.args.on.symbols.now c.loop-at.at blank c.loop-at-test.true) (sym c.in-Answers.ensures ∙ answered_is c.loop-at.choices o) c.loop-at.invariant.so_far;
    }

pub loop-at-preserved : goal.loop-at-preserved
loop-at-preserved c =
    let t : Lexeme = see c.args.on.source.now (slice_index_or c.args.on.symbols.now c.loop-at.at blank) in
    record {
      counted = omega (arith, c.loop-at.invariant.counted);
      within = omega (arith, c.loop-at.invariant.within);
      so_far = token_of (outside_of c.args.commas) (seen c.args.on) c.args.start c.loop-at.at c.loop-at.choices c.loop-at.choices t c.loop-at.invariant.within
          (drop_mapped (see c.args.on.source.now) c.args.on.symbols.now c.loop-at.at blank c.loop-at-test.true) (sym c.in-GoesOn.ensures) c.loop-at.invariant.so_far;
    }

pub returns-in-Ends : goal.returns-in-Ends
unfolding stretch_at
returns-in-Ends c =
    let t : Lexeme = see c.args.on.source.now (slice_index_or c.args.on.symbols.now c.loop-at.at blank) in
    phrase_ends (outside_of c.args.commas) (seen c.args.on) c.args.start c.loop-at.at c.loop-at.choices t (drop_mapped (see c.args.on.source.now) c.args.on.symbols.now c.loop-at.at blank c.loop-at-test.true) (sym c.in-Ends.ensures) c.loop-at.invariant.so_far

pub returns-in-Mismatches : goal.returns-in-Mismatches
unfolding stretch_at
returns-in-Mismatches c =
    let t : Lexeme = see c.args.on.source.now (slice_index_or c.args.on.symbols.now c.loop-at.at blank) in
    phrase_mismatches (outside_of c.args.commas) (seen c.args.on) c.args.start c.loop-at.at c.loop-at.choices t (drop_mapped (see c.args.on.source.now) c.args.on.symbols.now c.loop-at.at blank c.loop-at-test.true) (sym c.in-Mismatches.ensures)
    c.loop-at.invariant.so_far
