use Rattle.std.proofs.Common.{◌≡◌, ◌+◌, ◌++◌, drop}
use Rattle.px_callgraph.specs.Renaming.{stand_from}
use Rattle.px_match.proofs.substitution.put_from.Given as goal

abbrev pub invariant-loop-i : goal.invariant-loop-i
invariant-loop-i l = l.substitution.items ++ stand_from (l.first + l.i) (drop l.i l.contents) ≡ l.fn.substitution.items ++ stand_from l.first l.contents
