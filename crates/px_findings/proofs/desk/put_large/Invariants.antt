use Rattle.std.proofs.Common.{◌≡◌, ◌++◌, drop}
use Rattle.px_findings.specs.Bodies.{marked_from}
use Rattle.px_findings.proofs.desk.put_large.Given as goal

-- what is put, and what those that are left mark, is what all do
abbrev pub invariant-loop-number : goal.invariant-loop-number
invariant-loop-number l = l.out ++ marked_from l.number (drop l.number l.large) ≡ l.fn.out ++ marked_from 0 l.large
