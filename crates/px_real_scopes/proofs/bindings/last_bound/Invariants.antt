use Rattle.px_real_scopes.proofs.KeyLemmas.{Reached}
use Rattle.px_real_scopes.proofs.bindings.last_bound.Given as goal

-- none behind it binds what is looked for
abbrev pub invariant-loop-end : goal.invariant-loop-end
invariant-loop-end l = Reached l.items l.wanted l.end

abbrev pub decreases-loop-end : goal.decreases-loop-end
decreases-loop-end l = l.end
