use Rattle.std.proofs.Common.{◌≡◌, ◌++◌, drop, map}
use Rattle.std.specs.Prelude.{flat_map}
use Rattle.px_check.specs.Answers.{entry_of}
use Rattle.px_text_report.specs.Firsts.{firsts, others}
use Rattle.px_text_report.specs.Bugs.{same_error}
use Rattle.px_text_report.specs.Faults.{outer_bug_of}
use Rattle.px_text_report.proofs.shown.table_bugs.Given as goal

-- the bugs so far, and those that the entries which are left add to them
abbrev pub invariant-loop-one : goal.invariant-loop-one
invariant-loop-one l =
    l.bugs.items ++ others same_error l.bugs.items (flat_map (outer_bug_of l.faults) (map entry_of (drop l.one-index l.checked)))
    ≡ firsts same_error (flat_map (outer_bug_of l.faults) (map entry_of l.checked))
