-- What holds of declarations.
use Rattle.std.specs.Prelude.{◌≡◌, ℕ, List}
use Rattle.px_real_expressions.specs.Lexemes.{Lexeme}
use Rattle.px_real_declarations.specs.DeclarationTree.{DeclarationTree}
use Rattle.px_real_declarations.specs.Grammar.{Types, IsDeclaration, IsMemberDeclaration, IsParameter}

-- where these words are names of types, tokens are one declaration at most
abbrev pub OneDeclaration : Type 0
OneDeclaration = (types : Types) (n : ℕ) (ts : List Lexeme) (a b : DeclarationTree) → IsDeclaration types n ts a → IsDeclaration types n ts b → a ≡ b

-- one declaration of members
abbrev pub OneMember : Type 0
OneMember = (types : Types) (n : ℕ) (ts : List Lexeme) (a b : DeclarationTree) → IsMemberDeclaration types n ts a → IsMemberDeclaration types n ts b → a ≡ b

-- and one parameter
abbrev pub OneParameter : Type 0
OneParameter = (types : Types) (n : ℕ) (ts : List Lexeme) (a b : DeclarationTree) → IsParameter types n ts a → IsParameter types n ts b → a ≡ b
