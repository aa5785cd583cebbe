use Rattle.std.proofs.Common.{◌≡◌, ◌<◌, ◌^◌, ◌+◌, ◌++◌, drop, length}
use Rattle.px_callgraph.specs.Renaming.{stand_new, new_variables}
use Rattle.px_match.proofs.substitution.put_new.Given as goal

abbrev pub invariant-loop-x : goal.invariant-loop-x
invariant-loop-x l = record {
  pairs : l.substitution.items ++ stand_new l.x l.next (drop l.x l.vars) ≡ l.fn.substitution.items ++ stand_new 0 l.first_new l.vars;
  room : l.next + length (new_variables (drop l.x l.vars)) < 2 ^ 32;
}
