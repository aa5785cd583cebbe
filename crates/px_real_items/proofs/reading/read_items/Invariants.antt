use Rattle.std.proofs.Common.{◌≡◌, map, take}
use Rattle.px_real_symbols.specs.Symbols.{lexemes}
use Rattle.px_real_blocks.specs.Parts.{no_types}
use Rattle.px_real_items.specs.Trees.{item_tree}
use Rattle.px_real_items.specs.Files.{item_of}
use Rattle.px_real_items.proofs.FileLemmas.{SoFar}
use Rattle.px_real_items.proofs.reading.read_items.Given as goal

-- these were read, whatever is read of the others, and they are the first of the items
abbrev pub invariant-loop-item : goal.invariant-loop-item
invariant-loop-item l = record {
  read : SoFar (lexemes no_types l.source l.tokens) l.initial.names l.all.items l.names;
  same : map item_of (map (item_tree (lexemes no_types l.source l.tokens)) l.all.items) ≡ take l.item-index l.items;
}
