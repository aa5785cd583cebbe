-- Worked bodies: lexemes, and the statements that the grammar gives them.
use Rattle.std.specs.Prelude.{ℕ, ◌+◌, List, [], ◌∷◌, ◌++◌, None}
use Rattle.px_base.specs.declared.trace.Site.{Site}
use Rattle.px_real_expressions.specs.declared.terminal.Terminal.{Terminal}
use Rattle.px_real_expressions.specs.declared.terminal.Terminal.TheVariants as T
use Rattle.px_real_expressions.specs.Lexemes.{Lexeme}
use Rattle.px_real_statements.specs.StatementTree.{named, case, StatementTree, simple, choose, choose_else, labelled, unread}
use Rattle.px_real_statements.specs.Grammar.{IsBody}

abbrev pub column : ℕ → Site
column n = record { file = 0; line = 1; column = n }

-- a terminal whose text doesn't matter, at a column
abbrev pub sign : Terminal → ℕ → Lexeme
sign k n = record { terminal = k; site = column n; text = []; value = None }

-- a name of one letter
abbrev pub word : ℕ → ℕ → Lexeme
word letter n = record { terminal = T.Name; site = column n; text = letter ∷ []; value = None }

-- a name in parentheses
abbrev pub group : ℕ → ℕ → List Lexeme
group letter n = sign T.OpenParenthesis n ∷ word letter (n + 1) ∷ sign T.CloseParenthesis (n + 2) ∷ []

-- `if (a) if (b) c; else d;`: the `else` belongs to the nearest `if`
abbrev pub two_choices : List Lexeme
two_choices =
    sign T.If 1 ∷ group 97 4 ++ sign T.If 8 ∷ group 98 11 ++ word 99 15 ∷ sign T.Semicolon 16 ∷ sign T.Else 18 ∷ word 100 23 ∷ sign T.Semicolon 24 ∷ []

abbrev pub two_choices_tree : StatementTree
two_choices_tree = choose (column 1) (word 97 5 ∷ []) (choose_else (column 8) (word 98 12 ∷ []) (simple (word 99 15 ∷ [])) (simple (word 100 23 ∷ [])))

-- `a ? b : c`
abbrev pub choice : ℕ → List Lexeme
choice n = word 97 n ∷ sign T.Question (n + 2) ∷ word 98 (n + 4) ∷ sign T.Colon (n + 6) ∷ word 99 (n + 8) ∷ []

-- `case a ? b : c: d: e;`: the value ends at the colon that goes with no `?`
abbrev pub labels : List Lexeme
labels = sign T.Case 1 ∷ choice 6 ++ sign T.Colon 15 ∷ word 100 17 ∷ sign T.Colon 18 ∷ word 101 20 ∷ sign T.Semicolon 21 ∷ []

abbrev pub labels_tree : StatementTree
labels_tree = labelled (case (column 1) (choice 6) ∷ named (100 ∷ []) (column 17) ∷ []) (simple (word 101 20 ∷ []))

-- `a; if b; c;`: what begins with no statement, up to the end of the body
abbrev pub no_condition : List Lexeme
no_condition = sign T.If 4 ∷ word 98 7 ∷ sign T.Semicolon 8 ∷ word 99 10 ∷ sign T.Semicolon 11 ∷ []

-- what the grammar says of them
pub record Worked : Type 0 where
  pub nearest : IsBody 3 two_choices (two_choices_tree ∷ [])
  pub own_colon : IsBody 1 labels (labels_tree ∷ [])
  pub left_unread : IsBody 1 (word 97 1 ∷ sign T.Semicolon 2 ∷ no_condition) (simple (word 97 1 ∷ []) ∷ unread no_condition ∷ [])
  -- where no statement may stand within another, a condition isn't read either
  pub too_deep : IsBody 1 two_choices (unread two_choices ∷ [])
