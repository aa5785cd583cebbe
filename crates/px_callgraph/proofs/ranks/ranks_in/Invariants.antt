use Rattle.std.proofs.Common.{◌≡◌, ◌<◌, ℕ, length, get_or}
use Rattle.px_callgraph.specs.Working.{IsRanked, AreLow}
use Rattle.px_callgraph.proofs.ranks.ranks_in.Given as goal

-- the components before this one have their ranks
abbrev pub invariant-loop-number : goal.invariant-loop-number
invariant-loop-number l = record {
  size : length l.ranks.items ≡ length l.graph;
  low : AreLow l.numbers l.ranks.items;
  ranked : (x : ℕ) → x < length l.graph → get_or l.numbers x 0 < l.number → IsRanked l.graph l.numbers l.kept l.ranks.items x;
}
