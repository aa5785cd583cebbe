use Rattle.std.proofs.Common.{◌≡◌, List, map}
use Rattle.std.specs.Prelude.{All}
use Rattle.px_terms.specs.declared.conjuncts.Conj.{Conj}
use Rattle.px_explore.specs.Trails.{PutsOn}
use Rattle.px_explore.proofs.TrailLemmas.{IsDone}
use Rattle.px_explore.proofs.trail.Trail.push_conjuncts.Given as goal

-- those up to this number were put on
abbrev pub invariant-loop-n : goal.invariant-loop-n
invariant-loop-n g l = record {
  done : (done : List Conj) × PutsOn l.fn.self (λ cs. All (λ b. (goal.Domain-dyn g (b.vtable, b.value)).holds b.value cs) l.fn.domains.items) l.self
      (λ cs. All (λ b. (goal.Domain-dyn g (b.vtable, b.value)).holds b.value cs) l.domains.items) done × IsDone done l.from l.n l.pure;
  kinds : map (λ b. (goal.Domain-dyn g (b.vtable, b.value)).number b.value) l.domains.items ≡ map (λ b. (goal.Domain-dyn g (b.vtable, b.value)).number b.value) l.fn.domains.items;
}
