use Rattle.std.proofs.Common.{◌+◌, [], take, refl, sym, subst}
use Rattle.std.specs.Prelude.{Some}
use Rattle.px_parity.specs.Held.{Represents, MarkSays}
use Rattle.px_parity.proofs.Rule.{columns_at}
use Rattle.px_parity.proofs.Holding.{represents_none, said_next, said_rows, ruled_out_early, let_through_all}
use Rattle.px_parity.proofs.parity.ParityDomain.refutes.Goals as goal

pub loop-conjunct-init : goal.loop-conjunct-init
loop-conjunct-init c = subst (λ z. Represents z []) (sym c.new-pivots.ensures.items) represents_none

pub add_conjunct-requires-clause-inside : goal.add_conjunct-requires-clause-inside
add_conjunct-requires-clause-inside c =
    columns_at c.args._vars.now c.args.conjuncts.now c.loop-conjunct.conjunct-index c.conjunct-item.result c.requires c.loop-conjunct-test.true c.conjunct-item.is

pub returns-in-Refuted-clause-answer : goal.returns-in-Refuted-clause-answer
returns-in-Refuted-clause-answer c =
    let new = c.add_conjunct.new.pivots.items in
    let i = c.loop-conjunct.conjunct-index in
    let said = said_next c.loop-conjunct.pivots.items new c.args.conjuncts.now i c.conjunct-item.result c.loop-conjunct-test.true c.conjunct-item.is
    c.in_ok-add_conjunct.field-0 c.in_ok-add_conjunct.ensures.adds c.loop-conjunct.invariant in (
      λ _. ruled_out_early new c.args.conjuncts.now (i + 1) (subst (λ m. MarkSays (Some m) new (take (i + 1) c.args.conjuncts.now)) c.in-Refuted.is said),
      λ _. refl,
    )

pub loop-conjunct-preserved : goal.loop-conjunct-preserved
loop-conjunct-preserved c =
    let new = c.add_conjunct.new.pivots.items in
    let i = c.loop-conjunct.conjunct-index in
    let said = said_next c.loop-conjunct.pivots.items new c.args.conjuncts.now i c.conjunct-item.result c.loop-conjunct-test.true c.conjunct-item.is
    c.in_ok-add_conjunct.field-0 c.in_ok-add_conjunct.ensures.adds c.loop-conjunct.invariant in
    said_rows c.in_ok-add_conjunct.field-0 new (take (i + 1) c.args.conjuncts.now) said c.in_default.not-Refuted

pub returns-clause-answer : goal.returns-clause-answer
returns-clause-answer c = (
  λ e. absurd cc,
  λ r. absurd (let_through_all c.loop-conjunct.pivots.items c.args.conjuncts.now c.loop-conjunct.conjunct-index c.loop-conjunct-test.false c.loop-conjunct.invariant r),
)
