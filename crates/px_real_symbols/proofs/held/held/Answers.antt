use Rattle.std.proofs.Common.{◌+◌, drop, slice_index_or, refl, ap, ◌∙◌, arith}
use Rattle.std.proofs.lemmas.List.{length-map}
use Rattle.px_real_expressions.specs.Lexemes.{Lexeme}
use Rattle.px_real_symbols.specs.Symbols.{see, seen}
use Rattle.px_real_symbols.specs.Turns.{after_turn}
use Rattle.px_real_symbols.proofs.FrontLemmas.{blank, drop_mapped}
use Rattle.px_real_symbols.proofs.HeldLemmas.{held_goes_on, held_closes, held_mismatches}
use Rattle.px_real_symbols.proofs.held.held.Goals as goal

pub returns-in-Closes : goal.returns-in-Closes
returns-in-Closes c =
    let t : Lexeme = see c.args.on.source.now (slice_index_or c.args.on.symbols.now c.loop-at.at blank) in
    let rest = drop (c.loop-at.at + 1) (seen c.args.on) in
    held_closes (seen c.args.on) c.args.close c.args.start c.loop-at.at t c.loop-at.brackets.last c.take.new.brackets.last c.loop-at.brackets.before c.take.new.brackets.before
    (drop_mapped (see c.args.on.source.now) c.args.on.symbols.now c.loop-at.at blank c.loop-at-test.true)
    (c.in_ok-take.ensures t rest refl ∙ ap (λ z. after_turn z t c.take.new.brackets.last c.take.new.brackets.before rest) c.in-Closes.is) c.loop-at.invariant.so_far

pub returns-in-Mismatches : goal.returns-in-Mismatches
returns-in-Mismatches c =
    let t : Lexeme = see c.args.on.source.now (slice_index_or c.args.on.symbols.now c.loop-at.at blank) in
    let rest = drop (c.loop-at.at + 1) (seen c.args.on) in
    held_mismatches (seen c.args.on) c.args.close c.args.start c.loop-at.at t c.loop-at.brackets.last c.take.new.brackets.last c.loop-at.brackets.before c.take.new.brackets.before
    (drop_mapped (see c.args.on.source.now) c.args.on.symbols.now c.loop-at.at blank c.loop-at-test.true)
    (c.in_ok-take.ensures t rest refl ∙ ap (λ z. after_turn z t c.take.new.brackets.last c.take.new.brackets.before rest) c.in-Mismatches.is) c.loop-at.invariant.so_far

pub loop-at-preserved : goal.loop-at-preserved
loop-at-preserved c =
    let t : Lexeme = see c.args.on.source.now (slice_index_or c.args.on.symbols.now c.loop-at.at blank) in
    let rest = drop (c.loop-at.at + 1) (seen c.args.on) in
    record {
      within = omega (arith, c.loop-at.invariant.within);
      so_far = held_goes_on (seen c.args.on) c.args.close c.args.start c.loop-at.at t c.loop-at.brackets.last c.take.new.brackets.last c.loop-at.brackets.before c.take.new.brackets.before
          c.loop-at.invariant.within (omega (arith, c.loop-at-test.true, length-map c.args.on.symbols.now (see c.args.on.source.now)))
          (drop_mapped (see c.args.on.source.now) c.args.on.symbols.now c.loop-at.at blank c.loop-at-test.true)
          (c.in_ok-take.ensures t rest refl ∙ ap (λ z. after_turn z t c.take.new.brackets.last c.take.new.brackets.before rest) c.in-GoesOn.is) c.loop-at.invariant.so_far;
    }
