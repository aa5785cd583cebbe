-- What the code has of a file's items as the plain trees of the grammar.
use Rattle.std.specs.Prelude.{◌≡◌, ℕ, ◌-◌, List, ◌∷◌, length, take, drop, map, Option, Some, None, Result, Ok, Err}
use Rattle.px_real_expressions.specs.Lexemes.{Lexeme}
use Rattle.px_real_statements.specs.StatementTree.{StatementTree}
use Rattle.px_real_declarations.specs.DeclarationTree.{DeclarationTree, HeadTree}
use Rattle.px_real_declarations.specs.Grammar.{IsHead}
use Rattle.px_real_declarations.specs.Names.{Names, is_type}
use Rattle.px_real_blocks.specs.Parts.{IsBracedBody}
use Rattle.px_real_blocks.specs.Trees.{statement_tree}
use Rattle.px_real_declaring.specs.Items.{nesting_limit}
use Rattle.px_real_declaring.specs.Trees.{declaration_tree}
use Rattle.px_real_declaring.specs.declared.reading.DeclarationFault.{DeclarationFault}
use Rattle.px_real_declaring.specs.declared.reading.DeclarationFault.TheVariants as D
use Rattle.px_real_members.specs.Trees.{head_tree}
use Rattle.px_real_names.specs.Behind.{Leaves, of_head}
use Rattle.px_real_items.specs.Externals.{ExternalTree, declares, defines, IsExternal, IsNone, ItemTree, tokens_of, AreRead}
use Rattle.px_real_items.specs.declared.tree.External.{External}
use Rattle.px_real_items.specs.declared.tree.External.TheVariants as E
use Rattle.px_real_items.specs.declared.tree.Unread.{Unread}
use Rattle.px_real_items.specs.declared.tree.FileItem.{FileItem}

-- all but the last
abbrev pub all_but_last : {A : Type 0} → List A → List A
all_but_last ts = take (length ts - 1) ts

-- a declaration or definition that these tokens are
abbrev pub external_tree : List Lexeme → External → ExternalTree
external_tree ts (E.Declaration d) = declares (declaration_tree (all_but_last ts) d)
external_tree ts (E.Function head start body) = defines (head_tree (take start ts) head) (map (statement_tree (drop start ts)) body.items)

-- what a tree brings into scope is what this declaration does
abbrev pub itself : DeclarationTree → DeclarationTree
itself d = d

-- a tree of the grammar, and the names in scope behind it, where these were in scope; unless memory ran out, where none is given there is
-- none that brings something into scope, and what was in scope still is
abbrev pub NoneInScope : {A : Type 0} → (A → Type 0) → (A → DeclarationTree) → Names → Names → DeclarationFault → Type 0
NoneInScope G of names after D.NoMemory = Unit {0}
NoneInScope {A} G of names after e = ((a : A) (other : Names) → G a → Leaves names (of a) other → ⊥) × (after ≡ names)

abbrev pub InScope : {X A : Type 0} → (A → Type 0) → (A → DeclarationTree) → (X → A) → Names → Names → Result X DeclarationFault → Type 0
InScope G of view names after (Ok x) = G (view x) × Leaves names (of (view x)) after
InScope G of view names after (Err e) = NoneInScope G of names after e

-- what is read of tokens, where these names were in scope, and the names in scope behind them: unless memory ran out, where nothing is
-- read they are neither, and what was in scope still is
abbrev pub Neither : Names → List Lexeme → Names → DeclarationFault → Type 0
Neither names ts after D.NoMemory = Unit {0}
Neither names ts after e = IsNone names ts × (after ≡ names)

abbrev pub IsExternalRead : Names → List Lexeme → Names → Result External DeclarationFault → Type 0
IsExternalRead names ts after (Ok x) = IsExternal names ts (external_tree ts x) after
IsExternalRead names ts after (Err e) = Neither names ts after e

-- the tree, if there is one
abbrev pub tree_if : List Lexeme → Result External Unread → Option ExternalTree
tree_if ts (Ok x) = Some (external_tree ts x)
tree_if ts (Err e) = None

-- an item of a file with these tokens
abbrev pub item_tree : List Lexeme → FileItem → ItemTree
item_tree all x = record { item = x.item; tree = tree_if (tokens_of all x.item) x.read }

-- this item, where these names were in scope, and the names in scope behind it
abbrev pub IsOne : List Lexeme → Names → ItemTree → Names → Type 0
IsOne all names x after = (rest : List ItemTree) (last : Names) → AreRead all after rest last → AreRead all names (x ∷ rest) last

-- the same of a function whose body begins at this number
abbrev pub NoFunction : Names → List Lexeme → ℕ → Names → DeclarationFault → Type 0
NoFunction names ts start after D.NoMemory = Unit {0}
NoFunction names ts start after e = ((h : HeadTree) (ss : List StatementTree) (other : Names) → IsHead (is_type names) nesting_limit (take start ts) h → IsBracedBody (drop start ts) ss → Leaves names (of_head h) other → ⊥) × (after ≡ names)

abbrev pub IsFunctionRead : Names → List Lexeme → ℕ → Names → Result External DeclarationFault → Type 0
IsFunctionRead names ts start after (Ok x) = IsExternal names ts (external_tree ts x) after
IsFunctionRead names ts start after (Err e) = NoFunction names ts start after e
