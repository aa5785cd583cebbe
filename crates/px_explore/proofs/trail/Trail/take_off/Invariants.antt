use Rattle.std.proofs.Common.{◌≡◌, length, map}
use Rattle.std.specs.Prelude.{All}
use Rattle.px_explore.proofs.TrailLemmas.{IsStill}
use Rattle.px_explore.proofs.trail.Trail.take_off.Given as goal

abbrev pub invariant-loop-self : goal.invariant-loop-self
invariant-loop-self g l = record {
  still : IsStill l.fn.self (λ cs. All (λ b. (goal.Domain-dyn g (b.vtable, b.value)).holds b.value cs) l.fn.domains.items) l.held l.self
      (λ cs. All (λ b. (goal.Domain-dyn g (b.vtable, b.value)).holds b.value cs) l.domains.items);
  kinds : map (λ b. (goal.Domain-dyn g (b.vtable, b.value)).number b.value) l.domains.items ≡ map (λ b. (goal.Domain-dyn g (b.vtable, b.value)).number b.value) l.fn.domains.items;
}

abbrev pub decreases-loop-self : goal.decreases-loop-self
decreases-loop-self g l = length l.self.holders.items
