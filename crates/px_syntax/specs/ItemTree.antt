-- Items as plain data.
use Rattle.std.specs.Prelude.{ℕ, List, map}
use Rattle.px_base.specs.declared.trace.Site.{Site}
use Rattle.px_syntax.specs.declared.item.FieldDeclaration.{FieldDeclaration}
use Rattle.px_syntax.specs.declared.item.ResultType.{ResultType}
use Rattle.px_syntax.specs.declared.item.Parameter.{Parameter}
use Rattle.px_syntax.specs.declared.item.Item.{Item}
use Rattle.px_syntax.specs.declared.item.Item.TheVariants as I
use Rattle.px_syntax.specs.StatementTree.{StatementTree, statement_tree}

pub data ItemTree : Type 0 where
  struct : Site → List ℕ → List FieldDeclaration → ItemTree
  declared : Site → List ℕ → ItemTree
  prototype : Site → ResultType → List ℕ → List Parameter → ItemTree
  function : Site → ResultType → List ℕ → List Parameter → List StatementTree → ItemTree

abbrev pub item_tree : Item → ItemTree
item_tree (I.Struct site name fields) = struct site name fields
item_tree (I.Declared site name) = declared site name
item_tree (I.Prototype site result name parameters) = prototype site result name parameters
item_tree (I.Function site result name parameters body) = function site result name parameters (map statement_tree body)
