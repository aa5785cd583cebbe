use Rattle.std.proofs.Common.{◌≡◌, ◌↔◌, inl, inr, map, true, sym, subst}
use Rattle.std.specs.Prelude.{All}
use Rattle.px_terms.specs.Rules.{SomeRulesOut}
use Rattle.px_terms.proofs.Tests.{never_both}
use Rattle.px_solver.proofs.PlacesApart.{some_rule_held}
use Rattle.px_solver.specs.Pushed.{pushed_conjuncts}
use Rattle.px_solver.proofs.held.refuted_now.Goals as goal

pub returns-else-refuted : goal.returns-else-refuted
returns-else-refuted g c = λ items held all.
    let rules = some_rule_held (map (λ b. (goal.Domain-dyn g (b.vtable, b.value)).number b.value) c.args.domains.now.items) items in
    let lent = c.deref.ensures.value in
    let there = subst (All (λ b. (goal.Domain-dyn g (b.vtable, b.value)).holds b.value (pushed_conjuncts items))) (sym lent) all in
    let exactly = subst (λ bs. c.some_refuted.result ≡ true ↔ SomeRulesOut (map (λ b. (goal.Domain-dyn g (b.vtable, b.value)).number b.value) bs) (pushed_conjuncts items)) lent
    (c.some_refuted.ensures (pushed_conjuncts items) there) in (
      λ t. inr (rules.0 (exactly.0 t)),
      λ h. elim h [ inl plain ↦ absurd (never_both c.refuted.result ((c.refuted.ensures items held).1 plain) c.if-refuted.false) | inr r ↦ exactly.1 (rules.1 r) ],
    )
