use Rattle.std.proofs.Common.{◌≡◌, take}
use Rattle.px_terms.proofs.items.Items.copy.Given as goal

abbrev pub invariant-loop-i : goal.invariant-loop-i
invariant-loop-i g l = l.copies ≡ take l.i l.all
