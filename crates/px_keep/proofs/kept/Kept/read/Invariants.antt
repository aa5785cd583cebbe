use Rattle.std.proofs.Common.{length}
use Rattle.px_keep.proofs.ReadLemmas.{AreSoFar}
use Rattle.px_keep.proofs.kept.Kept.read.Given as goal

abbrev pub invariant-loop-rest : goal.invariant-loop-rest
invariant-loop-rest l = AreSoFar l.bytes l.items.items l.rest

abbrev pub decreases-loop-rest : goal.decreases-loop-rest
decreases-loop-rest l = length l.rest
