use Rattle.std.proofs.Common.{subst, ◌∙◌}
use Rattle.std.proofs.lemmas.List.{take_all}
use Rattle.px_parity.specs.Equations.{IsCleared}
use Rattle.px_parity.proofs.Eliminating.{pivot_at, cleared_more, even_at}
use Rattle.px_parity.proofs.elimination.reduce.Goals as goal

pub clear-requires : goal.clear-requires
clear-requires c = pivot_at c.args.pivots.now c.loop-pivot.pivot-index c.pivot-item.result c.requires c.loop-pivot-test.true c.pivot-item.is

pub loop-pivot-preserved : goal.loop-pivot-preserved
loop-pivot-preserved c = record {
  cleared = cleared_more c.args.pivots.now c.loop-pivot.pivot-index c.pivot-item.result c.loop-pivot.row c.clear.new.row c.requires c.loop-pivot-test.true c.pivot-item.is
      c.in_ok-clear.ensures.kept c.in_ok-clear.ensures.cleared c.loop-pivot.invariant.cleared;
  same = λ w h. c.in_ok-clear.ensures.same w (even_at w c.args.pivots.now c.loop-pivot.pivot-index c.pivot-item.result c.loop-pivot-test.true c.pivot-item.is h) ∙ c.loop-pivot.invariant.same w h;
}

pub returns-clause-cleared : goal.returns-clause-cleared
returns-clause-cleared c = subst (IsCleared c.loop-pivot.row) (take_all c.loop-pivot.pivot-index c.args.pivots.now c.loop-pivot-test.false) c.loop-pivot.invariant.cleared
