-- Declarations of real C as plain data. What is held as its tokens is a list of lexemes.
use Rattle.std.specs.Prelude.{ℕ, List, [], ◌∷◌, Bool, true, Option, ◌||◌}
use Rattle.px_base.specs.declared.trace.Site.{Site}
use Rattle.px_real_expressions.specs.Lexemes.{Lexeme}
use Rattle.px_real_declarations.specs.Roles.{role_of, is_basic, says_in_group}

-- a word with what stands in its parentheses
pub record GroupTree : Type 0 where
  pub word : List ℕ
  pub site : Site
  pub held : List Lexeme

-- what stands before a declarator
pub data SpecifierTree : Type 0 where
  -- a keyword alone
  keyword : List ℕ → Site → SpecifierTree
  -- the name of a type
  type_name : List ℕ → Site → SpecifierTree
  -- a keyword with parentheses, attributes among them
  group : GroupTree → SpecifierTree
  -- `struct`, `union` or `enum`: attributes, a tag if it has one, and what stands between its braces if it has some
  tagged : List ℕ → Site → List GroupTree → Option (List ℕ) → Option (List Lexeme) → SpecifierTree

-- whether it says a type
abbrev pub says_type : SpecifierTree → Bool
says_type (keyword word s) = is_basic (role_of word)
says_type (type_name word s) = true
says_type (group g) = says_in_group (role_of g.word)
says_type (tagged word s gs tag held) = true

-- whether one of them does, or one before them did
abbrev pub any_says : Bool → List SpecifierTree → Bool
any_says said [] = said
any_says said (s ∷ rest) = any_says (said || says_type s) rest

-- what stands around a name
pub data DeclaratorTree : Type 0 where
  no_name : DeclaratorTree
  a_name : List ℕ → Site → DeclaratorTree
  -- in parentheses, at the `(`, with attributes before it
  inner : Site → List GroupTree → DeclaratorTree → DeclaratorTree
  -- at the star: its qualifiers, and what it stands before
  pointer : Site → List SpecifierTree → DeclaratorTree → DeclaratorTree
  -- at the bracket, behind a declarator: what stands in it
  array : Site → DeclaratorTree → List Lexeme → DeclaratorTree
  -- at the parenthesis, behind a declarator: the parameters
  function : Site → DeclaratorTree → List Lexeme → DeclaratorTree

-- a declarator and what belongs to it
pub record DeclaredTree : Type 0 where
  -- attributes before it, where it isn't the first
  pub before : List GroupTree
  pub declarator : DeclaratorTree
  -- the name that the assembler has for it
  pub label : Option GroupTree
  pub after : List GroupTree
  -- what stands behind the `=`, or in a member behind the `:`
  pub value : Option (List Lexeme)

pub data DeclarationTree : Type 0 where
  declaration : List SpecifierTree → List DeclaredTree → DeclarationTree
  -- `_Static_assert`
  assertion : GroupTree → DeclarationTree

-- an enumerator: its name, attributes, and what stands behind its `=`
pub record EnumeratorTree : Type 0 where
  pub name : List ℕ
  pub site : Site
  pub attributes : List GroupTree
  pub value : Option (List Lexeme)

pub data ParametersTree : Type 0 where
  -- and whether `...` stands behind them
  parameters : List DeclarationTree → Bool → ParametersTree
  -- names alone, as of an old-style definition
  identifiers : List (List ℕ) → ParametersTree

-- what stands before a function's body: in an old-style definition declarations of its parameters too
pub record HeadTree : Type 0 where
  pub specifiers : List SpecifierTree
  pub declarator : DeclaratorTree
  pub declarations : List DeclarationTree
