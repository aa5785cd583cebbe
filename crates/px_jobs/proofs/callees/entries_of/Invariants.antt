use Rattle.std.proofs.Common.{◌≡◌, ◌++◌, map, drop}
use Rattle.px_check.specs.Answers.{entry_of}
use Rattle.px_jobs.proofs.callees.entries_of.Given as goal

abbrev pub invariant-loop-entry : goal.invariant-loop-entry
invariant-loop-entry l = l.entries ++ map entry_of (drop l.entry-index l.checked) ≡ map entry_of l.checked
