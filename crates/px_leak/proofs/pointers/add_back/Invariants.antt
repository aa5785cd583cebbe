use Rattle.px_leak.specs.Pointers.{GainsBack}
use Rattle.px_leak.proofs.pointers.add_back.Given as goal

abbrev pub invariant-loop-variable : goal.invariant-loop-variable
invariant-loop-variable l = GainsBack l.variable l.count l.initial.graph l.graph
