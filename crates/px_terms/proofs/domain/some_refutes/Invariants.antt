use Rattle.std.proofs.Common.{◌≡◌, ◌↔◌, List, All, true, map, take}
use Rattle.px_terms.specs.Rules.{SomeRulesOut}
use Rattle.px_terms.specs.declared.conjuncts.Conj.{Conj}
use Rattle.px_terms.proofs.domain.some_refutes.Given as goal

abbrev pub invariant-loop-i : goal.invariant-loop-i
invariant-loop-i g l = record {
  kinds : map (λ b. (goal.Domain-dyn g (b.vtable, b.value)).number b.value) l.domains.items ≡ map (λ b. (goal.Domain-dyn g (b.vtable, b.value)).number b.value) l.initial.domains.items;
  held : (cs : List Conj) → All (λ b. (goal.Domain-dyn g (b.vtable, b.value)).holds b.value cs) l.initial.domains.items → All (λ b. (goal.Domain-dyn g (b.vtable, b.value)).holds b.value cs) l.domains.items;
  answer : l.yes ≡ true ↔ SomeRulesOut (take l.i (map (λ b. (goal.Domain-dyn g (b.vtable, b.value)).number b.value) l.initial.domains.items)) l.conjuncts;
}
