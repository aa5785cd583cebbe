use Rattle.std.proofs.Common.{◌≡◌, ℕ, ◌+◌, ◌-◌, ◌++◌, List, length, map, take, sym, ap, subst, ◌∙◌, arith}
use Rattle.std.specs.Prelude.{reverse, slice_index}
use Rattle.std.proofs.lemmas.List.{length-map, take_all}
use Rattle.px_chains.specs.Ends.{IsEndOfKey}
use Rattle.px_interval.specs.declared.gaps.Gap.{Gap}
use Rattle.px_interval.specs.declared.kept.Kept.{Kept}
use Rattle.px_interval.specs.Gaps.{gaps_on, variable_of}
use Rattle.px_interval.proofs.Gathering.{gathered, gaps_up_to}
use Rattle.px_interval.proofs.kept.gather.Goals as goal

pub loop-end-init : goal.loop-end-init
loop-end-init c =
    let bounds : List Kept = c.args.bounds.now in
    let count : length c.args.variables.now ≡ length bounds = ap length c.requires ∙ length-map bounds variable_of in
    let w = c.end_of-end.ensures.within in
    let ends : IsEndOfKey (map variable_of bounds) c.args.variable (length bounds) c.end_of-end.result =
    subst (λ ks. IsEndOfKey ks c.args.variable (length bounds) c.end_of-end.result) c.requires
    (subst (λ n. IsEndOfKey c.args.variables.now c.args.variable n c.end_of-end.result) count c.end_of-end.ensures) in
    record {
      within = omega arith;
      here = c.end_of-end.ensures.here;
      gathered = ap (λ gs. c.args.gaps.now.items ++ gs)
          (sym (gaps_up_to bounds c.args.variable (length bounds) c.end_of-end.result (omega arith) ends)
          ∙ ap (λ ks. gaps_on c.args.variable (reverse ks)) (take_all (length bounds) bounds (omega arith)));
    }

pub loop-end-preserved : goal.loop-end-preserved
loop-end-preserved c =
    let bounds : List Kept = c.args.bounds.now in
    let x : ℕ = c.args.variable in
    let place : ℕ = c.loop-end.end - 1 in
    let within = c.loop-end.invariant.within in
    let test = c.loop-end-test.true in
    let here : slice_index c.args.variables.now place ≡ x = c.loop-end.invariant.here test in
    let end : IsEndOfKey c.args.variables.now x place c.end_before-end.result =
    subst (λ k. IsEndOfKey c.args.variables.now k place c.end_before-end.result) here c.end_before-end.ensures in
    let w = end.within in
    let at : c.loop-end.end ≡ place + 1 = omega arith in
    record {
      within = omega arith;
      here = end.here;
      gathered =
          ap (λ (gs : List Gap). gs ++ gaps_on x (reverse (take c.end_before-end.result bounds))) c.in_ok-add_gaps.ensures
          ∙ gathered bounds x c.loop-end.gaps.items (c.args.gaps.now.items ++ gaps_on x (reverse bounds)) place c.end_before-end.result (omega arith)
          (subst (λ ks. slice_index ks place ≡ x) c.requires here)
          (subst (λ ks. IsEndOfKey ks x place c.end_before-end.result) c.requires end)
          (subst (λ n. c.loop-end.gaps.items ++ gaps_on x (reverse (take n bounds)) ≡ c.args.gaps.now.items ++ gaps_on x (reverse bounds)) at c.loop-end.invariant.gathered);
    }
