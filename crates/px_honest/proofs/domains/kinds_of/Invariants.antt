use Rattle.std.proofs.Common.{◌≡◌, ◌++◌, drop, map}
use Rattle.px_honest.proofs.domains.kinds_of.Given as goal

-- with the kinds of the domains that are left, they are those of all
abbrev pub invariant-loop-domain : goal.invariant-loop-domain
invariant-loop-domain g l =
    l.kinds ++ map (λ b. (goal.Domain-dyn g (b.vtable, b.value)).number b.value) (drop l.domain-index l.domains)
    ≡ map (λ b. (goal.Domain-dyn g (b.vtable, b.value)).number b.value) l.domains
