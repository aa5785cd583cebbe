use Rattle.std.proofs.Common.{◌≡◌, ◌≤◌, ◌*◌, take}
use Rattle.std.specs.Prelude.{All}
use Rattle.std.specs.List.{sum_by}
use Rattle.px_cnf.specs.Standing.{IsComparison, conjunct_degree}
use Rattle.px_cnf.proofs.limits.check.Given as goal

abbrev pub invariant-loop-i : goal.invariant-loop-i
invariant-loop-i l = All IsComparison (take l.i l.conjuncts)

abbrev pub invariant-loop-i-2 : goal.invariant-loop-i-2
invariant-loop-i-2 l = record {
  value : l.sum ≡ sum_by conjunct_degree (take l.i l.conjuncts);
  small : l.sum ≤ 128 * l.i;
}
