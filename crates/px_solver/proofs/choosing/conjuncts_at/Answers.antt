use Rattle.std.proofs.Common.{get_or}
use Rattle.std.specs.Prelude.{nat_eq}
use Rattle.std.proofs.lemmas.Bool.{eq-eqb}
use Rattle.px_solver.specs.Tables.{IsAtHome}
use Rattle.px_solver.proofs.SelectLemmas.{select_next}
use Rattle.px_solver.proofs.ComponentLemmas.{eq_of}
use Rattle.px_solver.proofs.choosing.conjuncts_at.Goals as goal
use Rattle.px_terms.proofs.Tests.{never_both}

pub loop-i-preserved : goal.loop-i-preserved
loop-i-preserved c =
    let hs = c.args.homes.now in
    let h = get_or hs c.loop-i.i 0 in
    let home = c.args.home in
    select_next (IsAtHome home) c.args.conjuncts.now hs c.loop-i.i c.index-conjuncts-i.result c.loop-i.out c.keep_if.new.out (nat_eq h home) c.loop-i-test.true c.requires c.index-conjuncts-i.is
    (λ e. eq_of h home e) (λ e q. never_both (nat_eq h home) (eq-eqb h home q) e) c.in_ok-keep_if.ensures c.loop-i.invariant
