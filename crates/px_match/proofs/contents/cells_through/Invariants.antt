use Rattle.std.proofs.Common.{◌≡◌, ◌++◌, drop, map}
use Rattle.std.specs.Prelude.{flat_map}
use Rattle.std.specs.List.{list_any}
use Rattle.px_entry.specs.Sorts.{is_long}
use Rattle.px_callgraph.specs.Renaming.{content_through, content_terms}
use Rattle.px_match.proofs.contents.cells_through.Given as goal

abbrev pub invariant-loop-cell : goal.invariant-loop-cell
invariant-loop-cell l = record {
  made : l.made ++ map (content_through l.substitution) (drop l.cell-index l.cells) ≡ map (content_through l.substitution) l.cells;
  long : list_any is_long (flat_map (content_terms l.substitution) l.cells) ≡ list_any is_long (flat_map (content_terms l.substitution) (drop l.cell-index l.cells));
}
