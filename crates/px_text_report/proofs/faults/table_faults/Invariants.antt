use Rattle.std.proofs.Common.{◌≡◌, ◌++◌, drop, map}
use Rattle.std.specs.Prelude.{flat_map}
use Rattle.px_check.specs.Answers.{entry_of}
use Rattle.px_text_report.specs.Firsts.{firsts, others}
use Rattle.px_text_report.specs.Faults.{same_fault, fault_of}
use Rattle.px_text_report.proofs.faults.table_faults.Given as goal

-- the errors so far, and those that the entries which are left add to them
abbrev pub invariant-loop-one : goal.invariant-loop-one
invariant-loop-one l =
    l.faults.items ++ others same_fault l.faults.items (flat_map fault_of (map entry_of (drop l.one-index l.checked))) ≡ firsts same_fault (flat_map fault_of (map entry_of l.checked))
