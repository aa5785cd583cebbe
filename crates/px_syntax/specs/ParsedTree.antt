-- The items of files as plain data.
use Rattle.std.specs.Prelude.{ℕ, List, map, Option}
use Rattle.px_base.specs.declared.trace.Site.{Site}
use Rattle.px_syntax.specs.declared.program.ParsedItem.{ParsedItem}
use Rattle.px_syntax.specs.declared.program.ParsedItem.TheVariants as parsed_item
use Rattle.px_syntax.specs.declared.program.ParsedFile.{ParsedFile}
use Rattle.px_syntax.specs.ItemTree.{ItemTree, item_tree}

-- an item with its tree; or one without, with a function's name, the place and the word of its refusal
pub data ParsedTree : Type 0 where
  parsed : ItemTree → ParsedTree
  out : Option (List ℕ) → Site → List ℕ → ParsedTree

abbrev pub parsed_tree : ParsedItem → ParsedTree
parsed_tree (parsed_item.Parsed item) = parsed (item_tree item)
parsed_tree (parsed_item.Out name site word) = out name site word

pub record FileTree : Type 0 where
  pub name : List ℕ
  pub items : List ParsedTree

abbrev pub file_tree : ParsedFile → FileTree
file_tree f = record { name = f.name; items = map parsed_tree f.items }
