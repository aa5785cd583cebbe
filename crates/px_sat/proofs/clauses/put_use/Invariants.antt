use Rattle.std.proofs.Common.{ℕ, ◌+◌, ◌-◌, length}
use Rattle.px_sat.specs.Uses.{HasUse}
use Rattle.px_sat.proofs.clauses.put_use.Given as goal

abbrev pub invariant-loop-alloc : goal.invariant-loop-alloc
invariant-loop-alloc l = (c i : ℕ) → HasUse l.initial.uses.items c i → HasUse l.uses.items c i

abbrev pub decreases-loop-alloc : goal.decreases-loop-alloc
decreases-loop-alloc l = l.code + 1 - length l.uses.items
