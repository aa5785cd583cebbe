use Rattle.std.proofs.Common.{drop}
use Rattle.std.specs.Prelude.{◌↔◌}
use Rattle.std.specs.List.{AllByRecursion}
use Rattle.px_spelling.proofs.spell.is_each_in_range.Given as goal

-- those that are left are in range where all are
abbrev pub invariant-loop-item : goal.invariant-loop-item
invariant-loop-item g l = AllByRecursion (g.T.WireWith.fits_with (g.S.Terms.spelling l.terms)) (drop l.item-index l.items) ↔ AllByRecursion (g.T.WireWith.fits_with (g.S.Terms.spelling l.terms)) l.items
