use Rattle.std.proofs.Common.{◌≡◌, ◌-◌, ◌+◌, take, ap, ◌∙◌, arith}
use Rattle.px_real_declarations.specs.Names as Scopes
use Rattle.px_real_names.specs.Behind.{names_view}
use Rattle.px_real_names.proofs.NameLemmas.{nearest_is, further_is, none_at_all}
use Rattle.px_real_names.proofs.names.is_type.Goals as goal

pub returns-then-is_named : goal.returns-then-is_named
returns-then-is_named c =
    let e : c.loop-at.at - 1 + 1 ≡ c.loop-at.at = omega (arith, c.loop-at-test.true) in
    nearest_is c.args.entries.now (c.loop-at.at - 1) c.args.word.now c.index-entries-at.result (omega (arith, c.loop-at.invariant.0, c.loop-at-test.true)) c.index-entries-at.is c.index-entries-at-then-is_named.result
    (ap (λ n. Scopes.is_type (names_view (take n c.args.entries.now)) c.args.word.now) e ∙ c.loop-at.invariant.1) c.if-is_named.ensures

pub loop-at-preserved : goal.loop-at-preserved
loop-at-preserved c =
    let e : c.loop-at.at - 1 + 1 ≡ c.loop-at.at = omega (arith, c.loop-at-test.true) in (
      omega (arith, c.loop-at.invariant.0),
      further_is c.args.entries.now (c.loop-at.at - 1) c.args.word.now c.index-entries-at.result (omega (arith, c.loop-at.invariant.0, c.loop-at-test.true)) c.index-entries-at.is
          (ap (λ n. Scopes.is_type (names_view (take n c.args.entries.now)) c.args.word.now) e ∙ c.loop-at.invariant.1) c.if-is_named.ensures,
    )

pub returns : goal.returns
returns c = none_at_all c.args.entries.now c.loop-at.at _ (omega (arith, c.loop-at-test.false)) c.loop-at.invariant.1
