use Rattle.std.proofs.Common.{◌≡◌, ◌-◌, ◌+◌, drop, slice_index_or, ap, sym, ◌∙◌, arith}
use Rattle.px_real_types.specs.Declarators.{before_suffix, before_all}
use Rattle.px_real_types.proofs.DeclaratorLemmas.{none_behind, one_before, blank}
use Rattle.px_real_types.proofs.declarators.before_all.Goals as goal

pub loop-at-init : goal.loop-at-init
loop-at-init c = record { within = omega arith; so_far = none_behind c.args.suffixes.now c.args.shape _ (omega arith) }

pub loop-at-preserved : goal.loop-at-preserved
loop-at-preserved c =
    let e : c.loop-at.at - 1 + 1 ≡ c.loop-at.at = omega (arith, c.loop-at-test.true) in
    record {
      within = omega (arith, c.loop-at.invariant.within);
      so_far = one_before c.args.suffixes.now c.args.shape (c.loop-at.at - 1) (omega (arith, c.loop-at.invariant.within, c.loop-at-test.true))
          ∙ ap (λ n. before_suffix (slice_index_or c.args.suffixes.now (c.loop-at.at - 1) blank) (before_all (drop n c.args.suffixes.now) c.args.shape)) e
          ∙ ap (before_suffix (slice_index_or c.args.suffixes.now (c.loop-at.at - 1) blank)) c.loop-at.invariant.so_far ∙ sym c.before_suffix-before.ensures;
    }

pub returns : goal.returns
returns c = let z : c.loop-at.at ≡ 0 = omega (arith, c.loop-at-test.false) in sym (c.loop-at.invariant.so_far) ∙ ap (λ n. before_all (drop n c.args.suffixes.now) c.args.shape) z
