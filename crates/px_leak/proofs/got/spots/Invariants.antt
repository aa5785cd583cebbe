use Rattle.std.proofs.Common.{◌≡◌, ◌≤◌, ◌++◌, List, [], drop}
use Rattle.px_base.specs.declared.trace.ProcId.{ProcId}
use Rattle.px_leak.specs.Losses.{spots}
use Rattle.px_leak.specs.OpenCalls.{Holds}
use Rattle.px_leak.proofs.got.spots.Given as goal

-- the calls that are open so far, and the spots of the marks that are left
abbrev pub invariant-loop-mark : goal.invariant-loop-mark
invariant-loop-mark l =
    (calls : List ProcId) × Holds calls l.open × (l.open.depth ≤ l.mark-index) × (l.spots.items ++ spots calls (drop l.mark-index l.trace) ≡ spots [] l.trace)
