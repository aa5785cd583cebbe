use Rattle.std.proofs.Common.{◌≡◌, map, take}
use Rattle.px_check.specs.Answers.{entry_of}
use Rattle.px_jobs.proofs.same.are_entries.Given as goal

abbrev pub invariant-loop-place : goal.invariant-loop-place
invariant-loop-place l = map entry_of (take l.place l.checked) ≡ take l.place l.entries
