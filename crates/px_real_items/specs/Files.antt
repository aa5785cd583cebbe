-- The items of a file: as they are cut, and as each is read.
use Rattle.std.specs.Prelude.{ℕ, List, [], map, Ok}
use Rattle.px_real_tokens.specs.declared.token.Token.{Token}
use Rattle.px_real_cutting.specs.Roles.{as_mark}
use Rattle.px_real_cutting.specs.Items.{IsCut}
use Rattle.px_real_cutting.specs.declared.cutting.Item.{Item}
use Rattle.px_real_symbols.specs.Symbols.{lexemes}
use Rattle.px_real_declarations.specs.Names.{Names}
use Rattle.px_real_blocks.specs.Parts.{no_types}
use Rattle.px_real_items.specs.Externals.{ItemTree, AreRead}

abbrev pub item_of : ItemTree → Item
item_of x = x.item

-- the items of a file of these tokens, and the names in scope behind them; before them none is
pub record IsFile (source : List ℕ) (tokens : List Token) (xs : List ItemTree) (after : Names) : Type 0 where
  pub cut : IsCut (map (as_mark source) tokens) (Ok (map item_of xs))
  pub read : AreRead (lexemes no_types source tokens) [] xs after
