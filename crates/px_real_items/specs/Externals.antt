-- What stands in a file, item by item (C11 6.9): declarations and definitions of functions, each read where the names that are in scope
-- before it are known.
use Rattle.std.specs.Prelude.{◌≡◌, ◌-◌, List, [], ◌∷◌, ◌++◌, take, drop, Option, Some, None}
use Rattle.px_real_cutting.specs.declared.cutting.Item.{Item}
use Rattle.px_real_expressions.specs.declared.terminal.Terminal.TheVariants as T
use Rattle.px_real_expressions.specs.Lexemes.{Lexeme}
use Rattle.px_real_statements.specs.StatementTree.{StatementTree}
use Rattle.px_real_declarations.specs.DeclarationTree.{DeclarationTree, HeadTree}
use Rattle.px_real_declarations.specs.Grammar.{IsDeclaration, IsHead}
use Rattle.px_real_declarations.specs.Names.{Names, is_type}
use Rattle.px_real_blocks.specs.Parts.{IsBracedBody}
use Rattle.px_real_declaring.specs.Items.{nesting_limit}
use Rattle.px_real_names.specs.Behind.{Leaves, of_head}

pub data ExternalTree : Type 0 where
  -- a declaration, without its semicolon
  declares : DeclarationTree → ExternalTree
  -- a function: what stands before its body, and the statements of the body
  defines : HeadTree → List StatementTree → ExternalTree

-- which tokens are which declaration or definition, where these names are in scope before it, and the names in scope behind it
pub data IsExternal (names : Names) : List Lexeme → ExternalTree → Names → Type 0 where
  -- declaration ; (6.7)
  is_declaration : {ts1 ts : List Lexeme} (e : Lexeme) {d : DeclarationTree} {x : ExternalTree} {after : Names} →
      IsDeclaration (is_type names) nesting_limit ts1 d → e.terminal ≡ T.Semicolon → Leaves names d after → ts ≡ ts1 ++ e ∷ [] → x ≡ declares d → IsExternal names ts x after
  -- head { statements } (6.9.1)
  is_definition : {ts1 : List Lexeme} (ts2 : List Lexeme) {ts : List Lexeme} {h : HeadTree} {ss : List StatementTree} {x : ExternalTree} {after : Names} →
      IsHead (is_type names) nesting_limit ts1 h → IsBracedBody ts2 ss → Leaves names (of_head h) after → ts ≡ ts1 ++ ts2 → x ≡ defines h ss → IsExternal names ts x after

-- tokens that are neither, where these names are in scope
abbrev pub IsNone : Names → List Lexeme → Type 0
IsNone names ts = (x : ExternalTree) (after : Names) → IsExternal names ts x after → ⊥

-- an item of a file, with its tree if it has one
pub record ItemTree : Type 0 where
  pub item : Item
  pub tree : Option ExternalTree

-- the tokens of an item
abbrev pub tokens_of : {A : Type 0} → List A → Item → List A
tokens_of all i = take (i.after - i.first) (drop i.first all)

-- the items of a file one after the other, where these names are in scope before them, and the names in scope behind them; an item that
-- isn't read declares nothing
pub data AreRead (all : List Lexeme) : Names → List ItemTree → Names → Type 0 where
  no_item : {names after : Names} {xs : List ItemTree} → xs ≡ [] → after ≡ names → AreRead all names xs after
  one_read : {names names1 after : Names} (x : ItemTree) {t : ExternalTree} {xs1 xs : List ItemTree} →
      IsExternal names (tokens_of all x.item) t names1 → x.tree ≡ Some t → AreRead all names1 xs1 after → xs ≡ x ∷ xs1 → AreRead all names xs after
  one_unread : {names after : Names} (x : ItemTree) {xs1 xs : List ItemTree} →
      IsNone names (tokens_of all x.item) → x.tree ≡ None → AreRead all names xs1 after → xs ≡ x ∷ xs1 → AreRead all names xs after
