use Rattle.std.proofs.Common.{◌≡◌, ◌++◌, drop}
use Rattle.px_callgraph.specs.States.{given_variables}
use Rattle.px_walks.proofs.beginning.first_variables.Given as goal

abbrev pub invariant-loop-value : goal.invariant-loop-value
invariant-loop-value l = l.vars ++ given_variables (drop l.value-index l.parameters) ≡ given_variables l.parameters
