use Rattle.std.proofs.Common.{◌≡◌, ◌++◌, length, take}
use Rattle.std.specs.List.{flat_map}
use Rattle.px_spelling.specs.Numbers.{u32_bytes}
use Rattle.px_spelling.proofs.spell.write_items_with.Given as goal

-- the count, and the items so far
abbrev pub invariant-loop-item : goal.invariant-loop-item
invariant-loop-item g l = record {
  written : g.O.Output.written l.out ≡ g.O.Output.written l.fn.out ++ (u32_bytes (length l.items) ++ flat_map (g.T.WireWith.bytes_with (g.S.Terms.spelling l.terms)) (take l.item-index l.items));
  reached : (from : _) → g.O.Output.reaches from l.fn.out l.fn.target → g.O.Output.reaches from l.out l.target;
}
