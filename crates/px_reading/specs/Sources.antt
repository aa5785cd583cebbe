-- What a source file is read as: its items, each with its tree or why it has none; or its first fault.
use Rattle.std.specs.Prelude.{◌≡◌, ℕ, ◌<◌, ◌≤◌, List, [], ◌∷◌, Option, Some, None, ⊤, Ok, Err}
use Rattle.px_lexer.specs.declared.token.Token.{Token}
use Rattle.px_lexer.specs.declared.token.LexFault.TheVariants as lex_fault
use Rattle.px_lexer.specs.Tokens.{Lexes}
use Rattle.px_cutting.specs.declared.cutting.Span.{Span}
use Rattle.px_cutting.specs.Cutting.{Cuts}
use Rattle.px_cutting.specs.Shape.{tokens_in}
use Rattle.px_expressions.specs.Lexemes.{lexemes}
use Rattle.px_parser.specs.Refusals.{IsRefusal}
use Rattle.px_parser.specs.ItemGrammar.{IsItem}
use Rattle.px_parser.specs.Names.{IsFunctionName}
use Rattle.px_syntax.specs.ItemTree.{ItemTree}
use Rattle.px_syntax.specs.ParsedTree.{ParsedTree, parsed, out, FileTree}
use Rattle.px_reading.specs.declared.reading.SourceFault.{SourceFault}
use Rattle.px_reading.specs.declared.reading.SourceFault.TheVariants.{Byte, Comment, Constant, Unbalanced}

-- the name of the function of whose shape an item is, if it is of one and has a name
abbrev pub IsNamed : List ℕ → List Token → Option (List ℕ) → Type 0
IsNamed source tokens (Some name) = IsFunctionName source tokens name
IsNamed source tokens None = (name : List ℕ) → ¬ IsFunctionName source tokens name

-- an item has the tree that the grammar gives its tokens, or there is none, and a refusal's word and place
abbrev pub IsParsed : List ℕ → List Token → ParsedTree → Type 0
IsParsed source tokens (parsed item) = IsItem (lexemes source tokens) item
IsParsed source tokens (out name site word) =
    ((item : ItemTree) → ¬ IsItem (lexemes source tokens) item) × IsRefusal source tokens word site × IsNamed source tokens name

-- each span of the tokens is read as the item with its number
abbrev pub AreParsed : List ℕ → List Token → List Span → List ParsedTree → Type 0
AreParsed source tokens [] [] = ⊤
AreParsed source tokens (s ∷ spans) (i ∷ items) = IsParsed source (tokens_in tokens s) i × AreParsed source tokens spans items
AreParsed source tokens _ _ = ⊥

-- the file with this number, name and bytes: its tokens, cut into items, each read
pub record IsFileOf (number : ℕ) (name source : List ℕ) (file : FileTree) : Type 0 where
  pub tokens : List Token
  pub lexed : Lexes number source (Ok tokens)
  pub spans : List Span
  pub cut : Cuts 0 tokens (Ok spans)
  pub items : AreParsed source tokens spans file.items
  pub named : file.name ≡ name

-- the first fault of a source, by its tokens or by its brackets
abbrev pub HasFault : ℕ → List ℕ → SourceFault → Type 0
HasFault number source (Byte site) = Lexes number source (Err (lex_fault.Byte site))
HasFault number source (Comment site) = Lexes number source (Err (lex_fault.Comment site))
HasFault number source (Constant site) = Lexes number source (Err (lex_fault.Constant site))
HasFault number source (Unbalanced site) = (tokens : List Token) × Lexes number source (Ok tokens) × Cuts 0 tokens (Err site)

-- each span holds a token, and is within so many tokens
abbrev pub AreWithin : ℕ → List Span → Type 0
AreWithin n [] = ⊤
AreWithin n (s ∷ spans) = (s.first < s.after) × (s.after ≤ n) × AreWithin n spans
