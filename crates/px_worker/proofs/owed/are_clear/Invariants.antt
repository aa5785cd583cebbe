use Rattle.std.proofs.Common.{[], take}
use Rattle.std.specs.Prelude.{All}
use Rattle.px_worker.proofs.owed.are_clear.Given as goal

-- those up to this number hold nothing
abbrev pub invariant-loop-i : goal.invariant-loop-i
invariant-loop-i g l = All (λ b. (goal.Domain-dyn g (b.vtable, b.value)).holds b.value []) (take l.i l.domains)
