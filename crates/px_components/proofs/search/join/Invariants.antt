use Rattle.std.proofs.Common.{vec_len}
use Rattle.px_components.specs.Searches.{AreJoined}
use Rattle.px_components.proofs.search.join.Given as goal

abbrev pub invariant-loop-group : goal.invariant-loop-group
invariant-loop-group l = AreJoined l.place l.initial.groups.items l.groups.items

abbrev pub decreases-loop-group : goal.decreases-loop-group
decreases-loop-group l = vec_len l.groups
