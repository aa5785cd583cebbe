use Rattle.std.proofs.Common.{◌<◌, inl, inr, ℕ, get_or, arith, below_more, subst, sym}
use Rattle.std.specs.Prelude.{Contains}
use Rattle.std.proofs.lemmas.List.Elements.{Contains-get_or}
use Rattle.px_plain.proofs.LeastLemmas.{next_cases, above_all}
use Rattle.px_plain.proofs.words.least_missing.Goals as goal

pub loop-x-preserved : goal.loop-x-preserved
loop-x-preserved c =
    let xs = c.args.rising.now in
    let i = c.loop-x.x-index in
    let few = c.loop-x.invariant.few in
    let least = c.loop-x.least in
    let r = c.next_if_equal-least.result in
    let high = c.if-x-least.false in
    elim (next_cases (get_or xs i 0) least r c.next_if_equal-least.ensures) [
      | inl (e, f) ↦ record {
        few = omega arith;
        below = below_more (λ k. get_or xs k 0 < r) i (λ k h. let low = c.loop-x.invariant.below k h in omega arith) (omega arith);
        all = subst (λ z. (k : ℕ) → k < z → Contains xs k) (sym f) (below_more (λ k. Contains xs k) least c.loop-x.invariant.all (subst (λ z. Contains xs z) e (Contains-get_or xs i 0 c.loop-x-test.true)));
      }
      | inr (n, f) ↦ record {
        few = omega arith;
        below = below_more (λ k. get_or xs k 0 < r) i (λ k h. let low = c.loop-x.invariant.below k h in omega arith) (omega arith);
        all = subst (λ z. (k : ℕ) → k < z → Contains xs k) (sym f) c.loop-x.invariant.all;
      }
    ]

pub returns-clause-outside : goal.returns-clause-outside
returns-clause-outside c = above_all c.args.rising.now c.loop-x.least (λ i h. c.loop-x.invariant.below i (omega arith))
