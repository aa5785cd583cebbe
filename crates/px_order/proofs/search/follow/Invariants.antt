use Rattle.std.proofs.Common.{◌-◌}
use Rattle.px_order.specs.Searches.{work}
use Rattle.px_order.proofs.Following.{FollowsUpTo}
use Rattle.px_order.proofs.search.follow.Given as goal

abbrev pub invariant-loop-next : goal.invariant-loop-next
invariant-loop-next l = FollowsUpTo l.comparisons l.fn.marks l.marks l.fn.reached.items l.reached.items l.next

abbrev pub decreases-loop-next : goal.decreases-loop-next
decreases-loop-next l = work l.marks l.reached.items - l.next
