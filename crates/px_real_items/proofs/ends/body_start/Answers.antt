use Rattle.std.proofs.Common.{◌≡◌, ◌-◌, ◌+◌, ◌<◌, length, take, map, reverse, ap, sym, ◌∙◌, arith}
use Rattle.px_real_symbols.specs.Symbols.{see}
use Rattle.px_real_items.specs.Ends.{opening_at}
use Rattle.px_real_items.proofs.EndLemmas.{deepens, whole_left, goes_on_left, opens_there, outside_there, none_left}
use Rattle.px_real_items.proofs.ends.body_start.Goals as goal

pub loop-at-init : goal.loop-at-init
loop-at-init c = record { within = omega arith; so_far = whole_left (see c.args.on.source.now) c.args.on.symbols.now _ (omega arith) }

pub loop-at-preserved : goal.loop-at-preserved
loop-at-preserved c =
    let e : c.loop-at.at - 1 + 1 ≡ c.loop-at.at = omega (arith, c.loop-at-test.true) in
    let lt : c.loop-at.at - 1 < length c.args.on.symbols.now = omega (arith, c.loop-at.invariant.within, c.loop-at-test.true) in
    let is = sym c.in-Within.is ∙ c.taken.ensures in
    record {
      within = omega (arith, c.loop-at.invariant.within, c.loop-at-test.true, deepens _ c.loop-at.closed c.in-Within.next is);
      so_far = goes_on_left (see c.args.on.source.now) c.args.on.symbols.now (c.loop-at.at - 1) c.loop-at.closed c.in-Within.next lt is
          (ap (λ n. opening_at c.loop-at.closed (reverse (map (see c.args.on.source.now) (take n c.args.on.symbols.now)))) e ∙ c.loop-at.invariant.so_far);
    }

pub returns : goal.returns
returns c = none_left (see c.args.on.source.now) c.args.on.symbols.now c.loop-at.at c.loop-at.closed (omega (arith, c.loop-at-test.false)) c.loop-at.invariant.so_far

pub returns-in-Opens : goal.returns-in-Opens
returns-in-Opens c =
    let e : c.loop-at.at - 1 + 1 ≡ c.loop-at.at = omega (arith, c.loop-at-test.true) in
    opens_there (see c.args.on.source.now) c.args.on.symbols.now (c.loop-at.at - 1) c.loop-at.closed (omega (arith, c.loop-at.invariant.within, c.loop-at-test.true)) (sym c.in-Opens.is ∙ c.taken.ensures)
    (ap (λ n. opening_at c.loop-at.closed (reverse (map (see c.args.on.source.now) (take n c.args.on.symbols.now)))) e ∙ c.loop-at.invariant.so_far)

pub returns-in-Outside : goal.returns-in-Outside
returns-in-Outside c =
    let e : c.loop-at.at - 1 + 1 ≡ c.loop-at.at = omega (arith, c.loop-at-test.true) in
    outside_there (see c.args.on.source.now) c.args.on.symbols.now (c.loop-at.at - 1) c.loop-at.closed (omega (arith, c.loop-at.invariant.within, c.loop-at-test.true)) (sym c.in-Outside.is ∙ c.taken.ensures)
    (ap (λ n. opening_at c.loop-at.closed (reverse (map (see c.args.on.source.now) (take n c.args.on.symbols.now)))) e ∙ c.loop-at.invariant.so_far)
