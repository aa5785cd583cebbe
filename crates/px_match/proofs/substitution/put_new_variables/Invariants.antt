use Rattle.std.proofs.Common.{◌≡◌, ◌++◌, drop}
use Rattle.px_callgraph.specs.Renaming.{new_variables}
use Rattle.px_match.proofs.substitution.put_new_variables.Given as goal

abbrev pub invariant-loop-info : goal.invariant-loop-info
invariant-loop-info l = l.vars ++ new_variables (drop l.info-index l.theirs) ≡ l.fn.vars ++ new_variables l.theirs
