use Rattle.std.proofs.Common.{◌≡◌, ◌↔◌, ◌<◌, ℕ, true, false, length, get_or}
use Rattle.px_callgraph.specs.Working.{IsOnCycle}
use Rattle.px_callgraph.proofs.ranks.cycles_in.Given as goal

abbrev pub invariant-loop-node : goal.invariant-loop-node
invariant-loop-node l = record {
  size : length l.cycles.items ≡ l.node;
  each : (x : ℕ) → x < l.node → (get_or l.cycles.items x false ≡ true ↔ IsOnCycle l.graph l.numbers x);
}
