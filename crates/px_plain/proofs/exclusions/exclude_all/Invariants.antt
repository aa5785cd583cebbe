use Rattle.px_plain.specs.Exclusions.{Separates}
use Rattle.px_plain.proofs.exclusions.exclude_all.Given as goal

abbrev pub invariant-loop-i : goal.invariant-loop-i
invariant-loop-i l = Separates l.table l.differences l.i l.exclusions.items
