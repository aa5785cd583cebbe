use Rattle.std.proofs.Common.{◌+◌, ◌≤◌, drop}
use Rattle.px_drivers.specs.Crews.{in_all}
use Rattle.px_pooled.proofs.shared.counted.Given as goal

-- with what is left it is no more than all
abbrev pub invariant-loop-receipt : goal.invariant-loop-receipt
invariant-loop-receipt g l = l.all + in_all (drop l.receipt-index l.receipts) ≤ in_all l.receipts
