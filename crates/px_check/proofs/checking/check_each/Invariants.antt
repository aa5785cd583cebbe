use Rattle.std.proofs.Common.{◌≡◌, length}
use Rattle.std.specs.Prelude.{All}
use Rattle.std.specs.Vec.Iter.{into_iter_items, into_iter_len}
use Rattle.px_callgraph.specs.JobTree.{job_tree}
use Rattle.px_check.specs.Follows.{IsForkOf}
use Rattle.px_check.proofs.EachLemmas.{IsUnderWay}
use Rattle.px_check.proofs.checking.check_each.Given as goal

abbrev pub invariant-loop-entry : goal.invariant-loop-entry
invariant-loop-entry l =
    (into_iter_len l.entry-iterator ≡ length (into_iter_items l.entry-iterator))
    × IsUnderWay (job_tree l.job) l.fn.entries l.derivations l.all (into_iter_items l.entry-iterator) l.place
    × All (IsForkOf (job_tree l.job)) l.forks.items
