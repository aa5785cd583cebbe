use Rattle.px_findings.specs.Orders.{AreRising}
use Rattle.px_findings.proofs.order.by_number.Given as goal

abbrev pub invariant-loop-number : goal.invariant-loop-number
invariant-loop-number l = AreRising l.graph l.marked l.number l.order.items
