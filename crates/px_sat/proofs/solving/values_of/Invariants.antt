use Rattle.px_sat.specs.Verdicts.{AreValues}
use Rattle.px_sat.proofs.solving.values_of.Given as goal

abbrev pub invariant-loop-variable : goal.invariant-loop-variable
invariant-loop-variable l = AreValues l.trail l.variable l.values.items
