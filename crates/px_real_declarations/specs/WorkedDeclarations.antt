-- Worked declarations: lexemes, and the trees that the grammar gives them.
use Rattle.std.specs.Prelude.{ℕ, List, [], ◌∷◌, Bool, Some, None, codes}
use Rattle.std.specs.Str.{bytes_eq}
use Rattle.px_base.specs.declared.trace.Site.{Site}
use Rattle.px_real_expressions.specs.declared.terminal.Terminal.{Terminal}
use Rattle.px_real_expressions.specs.declared.terminal.Terminal.TheVariants as T
use Rattle.px_real_expressions.specs.Lexemes.{Lexeme}
use Rattle.px_real_declarations.specs.DeclarationTree.{keyword, type_name, DeclaratorTree, no_name, a_name, inner, function, DeclaredTree, DeclarationTree, declaration}
use Rattle.px_real_declarations.specs.Grammar.{IsDeclaration, IsParameter}

abbrev pub column : ℕ → Site
column n = record { file = 0; line = 1; column = n }

-- a terminal whose text doesn't matter, at a column
abbrev pub sign : Terminal → ℕ → Lexeme
sign k n = record { terminal = k; site = column n; text = []; value = None }

-- a name of one letter
abbrev pub word : ℕ → ℕ → Lexeme
word letter n = record { terminal = T.Name; site = column n; text = letter ∷ []; value = None }

-- `int`
abbrev pub int_word : ℕ → Lexeme
int_word n = record { terminal = T.Type; site = column n; text = codes "int"; value = None }

-- `T` is the name of a type, and no other word is
abbrev pub one_type : List ℕ → Bool
one_type text = bytes_eq text (84 ∷ [])

-- a declarator alone
abbrev pub alone : DeclaratorTree → DeclaredTree
alone d = record { before = []; declarator = d; label = None; after = []; value = None }

-- `T T`: the second is what is declared
abbrev pub twice : List Lexeme
twice = word 84 1 ∷ word 84 3 ∷ []

abbrev pub twice_tree : DeclarationTree
twice_tree = declaration (type_name (84 ∷ []) (column 1) ∷ []) (alone (a_name (84 ∷ []) (column 3)) ∷ [])

-- `a ? b, c : d`: a comma between a `?` and its `:` ends nothing
abbrev pub choice : List Lexeme
choice = word 97 9 ∷ sign T.Question 11 ∷ word 98 13 ∷ sign T.Comma 14 ∷ word 99 16 ∷ sign T.Colon 18 ∷ word 100 20 ∷ []

-- `int x = a ? b, c : d`
abbrev pub with_choice : List Lexeme
with_choice = int_word 1 ∷ word 120 5 ∷ sign T.Equal 7 ∷ choice

abbrev pub with_choice_tree : DeclarationTree
with_choice_tree = declaration (keyword (codes "int") (column 1) ∷ [])
    (record { before = []; declarator = a_name (120 ∷ []) (column 5); label = None; after = []; value = Some choice } ∷ [])

-- a word in parentheses behind `int`
abbrev pub in_parentheses : ℕ → List Lexeme
in_parentheses letter = int_word 1 ∷ sign T.OpenParenthesis 5 ∷ word letter 6 ∷ sign T.CloseParenthesis 7 ∷ []

-- as a parameter, `int (T)` takes a `T`, and `int (x)` has the name x
abbrev pub takes_type : DeclarationTree
takes_type = declaration (keyword (codes "int") (column 1) ∷ []) (alone (function (column 5) no_name (word 84 6 ∷ [])) ∷ [])

abbrev pub has_name : DeclarationTree
has_name = declaration (keyword (codes "int") (column 1) ∷ []) (alone (inner (column 5) [] (a_name (120 ∷ []) (column 6))) ∷ [])

-- what the grammar says of them
pub record Worked : Type 0 where
  pub second_is_declared : IsDeclaration one_type 1 twice twice_tree
  pub comma_in_choice : IsDeclaration one_type 1 with_choice with_choice_tree
  pub parameter_of_a_type : IsParameter one_type 2 (in_parentheses 84) takes_type
  pub parameter_with_name : IsParameter one_type 2 (in_parentheses 120) has_name
