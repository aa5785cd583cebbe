use Rattle.std.proofs.Common.{◌≡◌, ℕ, ◌<◌, get_or}
use Rattle.std.specs.Prelude.{false}
use Rattle.px_plain.specs.Places.{mark_at}
use Rattle.px_plain.proofs.marks.have_marked.Given as goal

abbrev pub invariant-loop-i : goal.invariant-loop-i
invariant-loop-i l = (i : ℕ) → i < l.i → mark_at l.marks (get_or l.nodes i 0) ≡ false
