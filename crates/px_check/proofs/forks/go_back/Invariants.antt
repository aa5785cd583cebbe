use Rattle.std.proofs.Common.{vec_len}
use Rattle.std.specs.Prelude.{All}
use Rattle.px_callgraph.specs.JobTree.{JobTree}
use Rattle.px_check.specs.Follows.{IsForkOf}
use Rattle.px_check.proofs.forks.go_back.Given as goal

abbrev pub invariant-loop-fork : goal.invariant-loop-fork
invariant-loop-fork l = (j : JobTree) → All (IsForkOf j) l.initial.forks.items → All (IsForkOf j) l.forks.items

abbrev pub decreases-loop-fork : goal.decreases-loop-fork
decreases-loop-fork l = vec_len l.forks
