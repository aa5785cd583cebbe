use Rattle.std.proofs.Common.{◌≤◌, length}
use Rattle.px_solver.specs.Tables.{AreNext, AreFirst}
use Rattle.px_solver.proofs.chains.chains_of.Given as goal

abbrev pub invariant-loop-i : goal.invariant-loop-i
invariant-loop-i l = record {
  within : l.i ≤ length l.homes;
  next : AreNext l.homes l.i l.chains.next.items;
  first : AreFirst l.homes l.i l.count l.chains.first.items;
}

abbrev pub decreases-loop-i : goal.decreases-loop-i
decreases-loop-i l = l.i
