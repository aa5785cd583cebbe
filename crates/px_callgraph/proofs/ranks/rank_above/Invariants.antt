use Rattle.std.proofs.Common.{◌≤◌, take, get_or}
use Rattle.px_callgraph.specs.Working.{IsAboveOf}
use Rattle.px_callgraph.proofs.ranks.rank_above.Given as goal

-- the least number above the ranks of those before this one
abbrev pub invariant-loop-target : goal.invariant-loop-target
invariant-loop-target l = record {
  above : IsAboveOf l.numbers l.kept l.ranks l.node (take l.target-index l.target-items) l.rank;
  low : l.rank ≤ get_or l.numbers l.node 0;
}
