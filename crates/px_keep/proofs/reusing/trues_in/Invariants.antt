use Rattle.std.proofs.Common.{◌≡◌, ◌+◌, ◌≤◌, drop}
use Rattle.px_keep.specs.Reused.{trues}
use Rattle.px_keep.proofs.reusing.trues_in.Given as goal

abbrev pub invariant-loop-used : goal.invariant-loop-used
invariant-loop-used l = (l.count + trues (drop l.used-index l.uses) ≡ trues l.uses) × (l.count ≤ l.used-index)
