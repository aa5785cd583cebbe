use Rattle.std.proofs.Common.{◌≡◌, ◌++◌, ◌-◌, length}
use Rattle.std.specs.List.{flat_map, AllByRecursion}
use Rattle.px_spelling.specs.Lists.{items_at}
use Rattle.px_spelling.proofs.Loop.{with_front}
use Rattle.px_spelling.proofs.spell.read_all.Given as goal

-- what was read and what is still read are all
abbrev pub invariant-loop : goal.invariant-loop
invariant-loop g l = record {
  reads : with_front l.items.items (items_at (g.T.WireWith.at_with (g.S.Terms.spelling l.terms)) (l.count - l.counter) l.rest) ≡ items_at (g.T.WireWith.at_with (g.S.Terms.spelling l.terms)) l.count l.bytes;
  spelled : l.bytes ≡ flat_map (g.T.WireWith.bytes_with (g.S.Terms.spelling l.terms)) l.items.items ++ l.rest;
  many : length l.items.items ≡ l.counter;
  fits : AllByRecursion (g.T.WireWith.fits_with (g.S.Terms.spelling l.terms)) l.items.items;
}
