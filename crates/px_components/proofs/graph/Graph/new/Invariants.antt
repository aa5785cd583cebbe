use Rattle.std.proofs.Common.{◌≡◌, [], map, replicate, vec_len}
use Rattle.px_components.proofs.graph.Graph.new.Given as goal

abbrev pub invariant-loop-node : goal.invariant-loop-node
invariant-loop-node l = record { rows : map (λ v. v.items) l.targets.items ≡ replicate l._node []; count : vec_len l.targets ≡ l._node }
