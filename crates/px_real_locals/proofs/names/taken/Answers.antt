use Rattle.std.proofs.Common.{◌≡◌, ◌∙◌, true, false, slice_index_or, arith}
use Rattle.px_real_symbols.specs.Symbols.{see}
use Rattle.px_real_symbols.proofs.FrontLemmas.{blank}
use Rattle.px_real_locals.specs.Addressed.{is_passed}
use Rattle.px_real_locals.proofs.LookLemmas.{passed_on, taken_there, none_taken}
use Rattle.px_real_locals.proofs.names.taken.Goals as goal

pub returns-then-not-is_passed : goal.returns-then-not-is_passed
returns-then-not-is_passed c =
    let no : is_passed (slice_index_or c.args.symbols.now c.loop-at.at blank).terminal ≡ false = (let e = c.if-not-is_passed.true in let k = c.is_passed.ensures in cc) in
    c.name_of.ensures ∙ taken_there (see c.args.source.now) c.args.symbols.now c.loop-at.at blank c.loop-at-test.true no ∙ c.loop-at.invariant

pub loop-at-preserved : goal.loop-at-preserved
loop-at-preserved c =
    let yes : is_passed (slice_index_or c.args.symbols.now c.loop-at.at blank).terminal ≡ true = (let e = c.if-not-is_passed.false in let k = c.is_passed.ensures in cc) in
    passed_on (see c.args.source.now) c.args.symbols.now c.loop-at.at blank c.loop-at-test.true yes ∙ c.loop-at.invariant

pub returns : goal.returns
returns c = none_taken (see c.args.source.now) c.args.symbols.now c.loop-at.at blank (omega (arith, c.loop-at-test.false)) ∙ c.loop-at.invariant
