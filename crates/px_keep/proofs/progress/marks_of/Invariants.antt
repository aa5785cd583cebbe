use Rattle.std.proofs.Common.{◌≡◌, ◌<◌, ℕ, ◌||◌, false, get_or, length, drop}
use Rattle.px_jobs.specs.Plans.{is_among}
use Rattle.px_keep.proofs.progress.marks_of.Given as goal

-- a procedure is marked, or still to come, where it is one of them
abbrev pub invariant-loop-proc : goal.invariant-loop-proc
invariant-loop-proc l = record {
  many : length l.marks.items ≡ l.kept;
  marks : (g : ℕ) → g < l.kept → (get_or l.marks.items g false || is_among g (drop l.proc-index l.procedures)) ≡ is_among g l.procedures;
}
