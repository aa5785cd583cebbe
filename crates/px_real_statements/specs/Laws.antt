-- What holds of the bodies of functions.
use Rattle.std.specs.Prelude.{◌≡◌, ℕ, List}
use Rattle.px_real_expressions.specs.Lexemes.{Lexeme}
use Rattle.px_real_expressions.specs.Held.{Balanced}
use Rattle.px_real_statements.specs.StatementTree.{StatementTree}
use Rattle.px_real_statements.specs.Grammar.{IsBody}

-- tokens are one body at most
abbrev pub OneBody : Type 0
OneBody = (d : ℕ) (ts : List Lexeme) (a b : List StatementTree) → IsBody d ts a → IsBody d ts b → a ≡ b

-- tokens whose brackets match are a body
abbrev pub SomeBody : Type 0
SomeBody = (d : ℕ) (ts : List Lexeme) → Balanced ts → (ss : List StatementTree) × IsBody d ts ss
