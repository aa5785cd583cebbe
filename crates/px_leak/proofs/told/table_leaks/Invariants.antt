use Rattle.std.proofs.Common.{◌≡◌, ◌++◌, drop, map}
use Rattle.std.specs.Prelude.{flat_map}
use Rattle.px_check.specs.Answers.{entry_of}
use Rattle.px_text_report.specs.Firsts.{others}
use Rattle.px_leak.specs.Leaks.{same_leak, outer_leaks, table_leaks}
use Rattle.px_leak.proofs.told.table_leaks.Given as goal

-- the leaks so far, and those that the entries which are left add to them
abbrev pub invariant-loop-one : goal.invariant-loop-one
invariant-loop-one l =
    l.leaks.items ++ others same_leak l.leaks.items (flat_map (outer_leaks l.sites) (map entry_of (drop l.one-index l.checked))) ≡ table_leaks l.sites (map entry_of l.checked)
