use Rattle.std.proofs.Common.{◌≡◌, ◌+◌, ◌≤◌, length, take, map, reverse}
use Rattle.px_real_symbols.specs.Symbols.{see, seen}
use Rattle.px_real_items.specs.Ends.{opening_at, body_start}
use Rattle.px_real_items.proofs.ends.body_start.Given as goal

abbrev pub decreases-loop-at : goal.decreases-loop-at
decreases-loop-at l = l.at

-- what is left says where the body begins
abbrev pub invariant-loop-at : goal.invariant-loop-at
invariant-loop-at l = record {
  within : l.closed + l.at ≤ length l.on.symbols.now;
  so_far : opening_at l.closed (reverse (map (see l.on.source.now) (take l.at l.on.symbols.now))) ≡ body_start (seen l.on);
}
