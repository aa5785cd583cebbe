use Rattle.std.proofs.Common.{◌≡◌, ◌++◌, drop, map}
use Rattle.px_findings.proofs.kinds.kinds_of.Given as goal

abbrev pub invariant-loop-domain : goal.invariant-loop-domain
invariant-loop-domain g l =
    l.kinds ++ map (λ b. (goal.Domain-dyn g (b.vtable, b.value)).number b.value) (drop l.domain-index l.domains)
    ≡ map (λ b. (goal.Domain-dyn g (b.vtable, b.value)).number b.value) l.domains
