use Rattle.std.proofs.Common.{◌≤◌}
use Rattle.px_real_symbols.specs.Symbols.{seen}
use Rattle.px_real_symbols.proofs.HeldLemmas.{HeldSoFar}
use Rattle.px_real_symbols.proofs.held.held.Given as goal

abbrev pub invariant-loop-at : goal.invariant-loop-at
invariant-loop-at l = record {
  within : l.start ≤ l.at;
  so_far : HeldSoFar (seen l.on) l.fn.close l.start l.at l.brackets.last l.brackets.before;
}
