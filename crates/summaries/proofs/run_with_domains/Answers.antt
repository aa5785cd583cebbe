use Rattle.std.proofs.Common.{inl, inr, [], sym, subst}
use Rattle.px_interval.specs.Held.{HoldsConjuncts as IntervalHolds}
use Rattle.px_parity.specs.Held.{Holds as ParityHolds}
use Rattle.px_order.specs.Held.{HoldsConjuncts as OrderHolds}
use Rattle.px_findings.proofs.ThreePushed.{all_three, of_object}
use Rattle.summaries.proofs.run_with_domains.OwnLists.{own-1}
use Rattle.summaries.proofs.run_with_domains.Goals as goal

pub run-requires-clause-clear : goal.run-requires-clause-clear
run-requires-clause-clear g c =
    let x = c.into_dyn_box in
    let y = c.into_dyn_box-in_ok-new-2 in
    let z = c.into_dyn_box-in_ok-new-3 in
    all_three (λ b. (own-1.entry b.vtable).1.holds b.value []) _ _ _ _ x.result y.result z.result
    c.new-domains.ensures.items c.in_ok-push.ensures.items c.in_ok-push-2.ensures.items c.in_ok-push-3.ensures.items
    (of_object own-1 (λ e w. e.1.holds w []) (inl tt) x.result.vtable x.result.value c.in_ok-new.field-0.value x.ensures.1 (subst (λ d. IntervalHolds d []) (sym c.in_ok-new.ensures.ok) c.new.ensures))
    (of_object own-1 (λ e w. e.1.holds w []) (inr (inl tt)) y.result.vtable y.result.value c.in_ok-new-2.field-0.value y.ensures.1 (subst (λ d. ParityHolds d []) (sym c.in_ok-new-2.ensures.ok) c.new-3.ensures))
    (of_object own-1 (λ e w. e.1.holds w []) (inr (inr (inl tt))) z.result.vtable z.result.value c.in_ok-new-3.field-0.value z.ensures.1 (subst (λ d. OrderHolds d []) (sym c.in_ok-new-3.ensures.ok) c.new-5.ensures))
