use Rattle.px_keep.proofs.GoodLemmas.{KeysSoFar}
use Rattle.px_keep.proofs.looking.keys_of.Given as goal

abbrev pub invariant-loop-place : goal.invariant-loop-place
invariant-loop-place l = KeysSoFar l.items l.kept l.chains l.place
