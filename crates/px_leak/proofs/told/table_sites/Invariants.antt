use Rattle.std.proofs.Common.{◌≡◌, ◌++◌, drop, map}
use Rattle.std.specs.Prelude.{flat_map}
use Rattle.px_check.specs.Answers.{entry_of}
use Rattle.px_text_report.specs.Firsts.{others}
use Rattle.px_text_report.specs.Bugs.{same_site}
use Rattle.px_leak.specs.Leaks.{entry_sites, table_sites}
use Rattle.px_leak.proofs.told.table_sites.Given as goal

-- the sites so far, and those that the entries which are left add to them
abbrev pub invariant-loop-one : goal.invariant-loop-one
invariant-loop-one l = l.sites.items ++ others same_site l.sites.items (flat_map entry_sites (map entry_of (drop l.one-index l.checked))) ≡ table_sites (map entry_of l.checked)
