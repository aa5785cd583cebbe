use Rattle.std.proofs.Common.{◌≡◌, ◌<◌, ℕ, get_or}
use Rattle.px_callgraph.proofs.ranks.is_on_cycle.Given as goal

-- none of those before this one has the number
abbrev pub invariant-loop-target : goal.invariant-loop-target
invariant-loop-target l = (k : ℕ) → k < l.target-index → ¬ (get_or l.numbers (get_or l.target-items k 0) 0 ≡ get_or l.numbers l.node 0)
