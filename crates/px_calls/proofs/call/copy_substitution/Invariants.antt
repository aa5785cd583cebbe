use Rattle.std.proofs.Common.{◌≡◌, take}
use Rattle.px_calls.proofs.call.copy_substitution.Given as goal

abbrev pub invariant-loop-x : goal.invariant-loop-x
invariant-loop-x l = l.copy.items ≡ take l.x-index l.substitution
