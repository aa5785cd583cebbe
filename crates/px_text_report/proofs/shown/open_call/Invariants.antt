use Rattle.std.proofs.Common.{◌≡◌, ◌≤◌, List, [], drop, length}
use Rattle.px_base.specs.declared.trace.ProcId.{ProcId}
use Rattle.px_text_report.specs.Calls.{open_calls, outermost}
use Rattle.px_text_report.proofs.shown.open_call.Given as goal

-- the calls that are open so far: so many, and the first of them
abbrev pub invariant-loop-mark : goal.invariant-loop-mark
invariant-loop-mark l =
    (calls : List ProcId) × (length calls ≡ l.depth) × (outermost calls ≡ l.first) × (open_calls calls (drop l.mark-index l.trace) ≡ open_calls [] l.trace) × (l.depth ≤ l.mark-index)
