-- Statements of real C as plain data. What is held as its tokens is a list of lexemes.
use Rattle.std.specs.Prelude.{ℕ, List, [], ◌∷◌, Bool, true, false}
use Rattle.px_base.specs.declared.trace.Site.{Site}
use Rattle.px_real_expressions.specs.Lexemes.{Lexeme}

-- what names a place in a function
pub data LabelTree : Type 0 where
  named : List ℕ → Site → LabelTree
  -- at the word: the value, or with GNU's `...` the values, held
  case : Site → List Lexeme → LabelTree
  default : Site → LabelTree

mutual
  pub data StatementTree : Type 0 where
    empty : StatementTree
    -- a declaration or an expression, held
    simple : List Lexeme → StatementTree
    block : StatementTrees → StatementTree
    -- these at the word; what stands in parentheses is held
    choose : Site → List Lexeme → StatementTree → StatementTree
    choose_else : Site → List Lexeme → StatementTree → StatementTree → StatementTree
    switch : Site → List Lexeme → StatementTree → StatementTree
    while_loop : Site → List Lexeme → StatementTree → StatementTree
    do_loop : Site → StatementTree → List Lexeme → StatementTree
    for_loop : Site → List Lexeme → List Lexeme → List Lexeme → StatementTree → StatementTree
    -- to a label, or with GNU's `*` to an address, held
    goto : Site → List Lexeme → StatementTree
    break : Site → StatementTree
    continue : Site → StatementTree
    -- with a value or without one, held
    return : Site → List Lexeme → StatementTree
    labelled : List LabelTree → StatementTree → StatementTree
    -- what begins with no statement, up to the end of its block
    unread : List Lexeme → StatementTree

  pub data StatementTrees : Type 0 where
    no_statements : StatementTrees
    a_statement : StatementTree → StatementTrees → StatementTrees

abbrev pub statements_of : List StatementTree → StatementTrees
statements_of [] = no_statements
statements_of (s ∷ rest) = a_statement s (statements_of rest)

-- a statement with labels before it, if there are some
abbrev pub labelled_by : List LabelTree → StatementTree → StatementTree
labelled_by [] s = s
labelled_by (l ∷ ls) s = labelled (l ∷ ls) s

-- whether an `else` after the statement would belong to an `if` in it
abbrev pub hangs : StatementTree → Bool
hangs (choose w e s) = true
hangs (choose_else w e s t) = hangs t
hangs (switch w e s) = hangs s
hangs (while_loop w e s) = hangs s
hangs (for_loop w a b c s) = hangs s
hangs (labelled ls s) = hangs s
hangs _ = false
