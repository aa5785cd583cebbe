use Rattle.px_order.proofs.Following.{FollowsFrom}
use Rattle.px_order.proofs.search.follow_from.Given as goal

abbrev pub invariant-loop-end : goal.invariant-loop-end
invariant-loop-end l = FollowsFrom l.comparisons l.firsts l.variable l.fn.marks l.marks l.fn.reached.items l.reached.items l.end

abbrev pub decreases-loop-end : goal.decreases-loop-end
decreases-loop-end l = l.end
