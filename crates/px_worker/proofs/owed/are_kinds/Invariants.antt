use Rattle.std.proofs.Common.{◌≡◌, map, take}
use Rattle.px_worker.proofs.owed.are_kinds.Given as goal

abbrev pub invariant-loop-i : goal.invariant-loop-i
invariant-loop-i g l = take l.i l.kinds ≡ take l.i (map (λ b. (goal.Domain-dyn g (b.vtable, b.value)).number b.value) l.domains)
