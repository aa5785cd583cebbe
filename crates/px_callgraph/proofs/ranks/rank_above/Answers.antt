use Rattle.std.proofs.Common.{ℕ, List, get_or, take, subst, sym}
use Rattle.std.specs.Prelude.{Contains}
use Rattle.std.proofs.lemmas.List.{take_more}
use Rattle.std.proofs.lemmas.List.Elements.{Contains-get_or}
use Rattle.px_callgraph.specs.Working.{IsAboveOf}
use Rattle.px_callgraph.proofs.ranks.rank_above.Goals as goal

pub rank_with-rank-requires-clause-falls : goal.rank_with-rank-requires-clause-falls
rank_with-rank-requires-clause-falls c =
    let y : ℕ = get_or c.targets-target-items.result.now c.loop-target.target-index 0 in
    c.requires.falls y (subst (λ (ys : List ℕ). Contains ys y) c.targets-target-items.ensures.value (Contains-get_or c.targets-target-items.result.now c.loop-target.target-index 0 c.loop-target-test.true))

pub loop-target-preserved : goal.loop-target-preserved
loop-target-preserved c = record {
  above = subst (λ (zs : List ℕ). IsAboveOf c.args.numbers.now c.args.kept c.args.ranks.now c.args.node zs c.rank_with-rank.result) (sym (take_more c.targets-target-items.result.now c.loop-target.target-index 0 c.loop-target-test.true))
      (c.rank_with-rank.ensures.above (take c.loop-target.target-index c.targets-target-items.result.now) c.loop-target.invariant.above);
  low = c.rank_with-rank.ensures.low;
}
