use Rattle.std.proofs.Common.{◌≡◌, ◌<◌, ℕ, length, get_or}
use Rattle.px_callgraph.specs.Working.{IsRanked, AreLow}
use Rattle.px_callgraph.proofs.ranks.rank_group.Given as goal

abbrev pub invariant-loop-node : goal.invariant-loop-node
invariant-loop-node l = record {
  size : length l.ranks ≡ length l.initial.ranks;
  low : AreLow l.numbers l.ranks;
  before : (x : ℕ) → get_or l.numbers x 0 < l.number → IsRanked l.graph l.numbers l.kept l.initial.ranks x → IsRanked l.graph l.numbers l.kept l.ranks x;
  here : (k : ℕ) → k < l.node-index → IsRanked l.graph l.numbers l.kept l.ranks (get_or l.nodes k 0);
}
