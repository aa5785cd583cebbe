use Rattle.std.proofs.Common.{◌+◌, ◌*◌, ◌≤◌, length}
use Rattle.px_parts.specs.Forms.{Passes}
use Rattle.px_parts.proofs.skim.pass_all.Given as goal

-- what was passed over so far
abbrev pub invariant-loop-after : goal.invariant-loop-after
invariant-loop-after l = Passes l.fn.dues.items l.bytes l.dues.items l.rest × (length l.rest ≤ length l.bytes)

abbrev pub decreases-loop-after : goal.decreases-loop-after
decreases-loop-after l = 2 * length l.rest + length l.dues.items
