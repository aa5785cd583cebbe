use Rattle.std.proofs.Common.{◌∷◌, ◌++◌, [], ap, ◌∙◌}
use Rattle.px_findings.proofs.Places.{one_more}
use Rattle.px_findings.proofs.kinds.kinds_of.Goals as goal

pub loop-domain-preserved : goal.loop-domain-preserved
loop-domain-preserved g c =
    one_more (λ b. (goal.Domain-dyn g (b.vtable, b.value)).number b.value) c.args.domains.now c.loop-domain.kinds c.push.new.self c.loop-domain.domain-index c.domain-item.result
    c.loop-domain-test.true c.domain-item.is (c.in_ok-push.ensures.added ∙ ap (λ k. c.loop-domain.kinds ++ k ∷ []) c.kind.ensures) c.loop-domain.invariant
