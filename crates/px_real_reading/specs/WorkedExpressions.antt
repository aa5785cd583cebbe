-- Worked expressions: lexemes, and the tree that the grammar gives them or that it gives none.
use Rattle.std.specs.Prelude.{ℕ, List, [], ◌∷◌, None}
use Rattle.px_base.specs.declared.trace.Site.{Site}
use Rattle.px_real_expressions.specs.declared.terminal.Terminal.{Terminal}
use Rattle.px_real_expressions.specs.declared.terminal.Terminal.TheVariants as T
use Rattle.px_real_expressions.specs.declared.operators.Operator.TheVariants as O
use Rattle.px_real_expressions.specs.declared.operators.Measure.TheVariants as M
use Rattle.px_real_expressions.specs.Lexemes.{Lexeme}
use Rattle.px_real_expressions.specs.ExpressionTree.{ExpressionTree, no_expressions, an_expression, name, parenthesised, literal, call, measure, measure_type, cast, binary, assign}
use Rattle.px_real_expressions.specs.Grammar.{IsExpression}

abbrev pub column : ℕ → Site
column n = record { file = 0; line = 1; column = n }

-- a terminal whose text doesn't matter, at a column
abbrev pub sign : Terminal → ℕ → Lexeme
sign k n = record { terminal = k; site = column n; text = []; value = None }

-- a word of one letter, the name of a type or another
abbrev pub word : Terminal → ℕ → ℕ → Lexeme
word k letter n = record { terminal = k; site = column n; text = letter ∷ []; value = None }

-- `a = b + c * d`
abbrev pub assignment : List Lexeme
assignment = word T.Name 97 1 ∷ sign T.Equal 3 ∷ word T.Name 98 5 ∷ sign T.Plus 7 ∷ word T.Name 99 9 ∷ sign T.Star 11 ∷ word T.Name 100 13 ∷ []

abbrev pub assignment_tree : ExpressionTree
assignment_tree = assign None (column 3) (name (97 ∷ []) (column 1))
    (binary O.Add (column 7) (name (98 ∷ []) (column 5)) (binary O.Multiply (column 11) (name (99 ∷ []) (column 9)) (name (100 ∷ []) (column 13))))

-- `(t)(a)`, where k says what `t` is
abbrev pub two_groups : Terminal → List Lexeme
two_groups k = sign T.OpenParenthesis 1 ∷ word k 116 2 ∷ sign T.CloseParenthesis 3 ∷ sign T.OpenParenthesis 4 ∷ word T.Name 97 5 ∷ sign T.CloseParenthesis 6 ∷ []

-- a cast of `(a)`, where `t` is the name of a type
abbrev pub cast_tree : ExpressionTree
cast_tree = cast (column 1) (word T.TypeName 116 2 ∷ []) (parenthesised (column 4) (name (97 ∷ []) (column 5)))

-- and a call of `(t)` where it is another name
abbrev pub call_tree : ExpressionTree
call_tree = call (column 4) (parenthesised (column 1) (name (116 ∷ []) (column 2))) (an_expression (name (97 ∷ []) (column 5)) no_expressions)

-- `sizeof (t) - a`: the size of a type, and `a` is subtracted
abbrev pub size : List Lexeme
size = sign T.Sizeof 1 ∷ sign T.OpenParenthesis 8 ∷ word T.TypeName 116 9 ∷ sign T.CloseParenthesis 10 ∷ sign T.Minus 12 ∷ word T.Name 97 14 ∷ []

abbrev pub size_tree : ExpressionTree
size_tree = binary O.Subtract (column 12) (measure_type M.Size (column 1) (word T.TypeName 116 9 ∷ [])) (name (97 ∷ []) (column 14))

-- `sizeof (t) { }`: the size of a compound literal
abbrev pub literal_size : List Lexeme
literal_size = sign T.Sizeof 1 ∷ sign T.OpenParenthesis 8 ∷ word T.TypeName 116 9 ∷ sign T.CloseParenthesis 10 ∷ sign T.OpenBrace 12 ∷ sign T.CloseBrace 14 ∷ []

abbrev pub literal_size_tree : ExpressionTree
literal_size_tree = measure M.Size (column 1) (literal (column 8) (word T.TypeName 116 9 ∷ []) [])

-- `a ? b : c = d`
abbrev pub chosen_place : List Lexeme
chosen_place = word T.Name 97 1 ∷ sign T.Question 3 ∷ word T.Name 98 5 ∷ sign T.Colon 7 ∷ word T.Name 99 9 ∷ sign T.Equal 11 ∷ word T.Name 100 13 ∷ []

-- what the grammar says of them
pub record Worked : Type 0 where
  pub assigned : IsExpression 1 assignment assignment_tree
  pub typed : IsExpression 2 (two_groups T.TypeName) cast_tree
  pub called : IsExpression 1 (two_groups T.Name) call_tree
  pub sized : IsExpression 0 size size_tree
  pub literal_sized : IsExpression 1 literal_size literal_size_tree
  -- a choice isn't what something is assigned to
  pub no_place : (d : ℕ) (e : ExpressionTree) → IsExpression d chosen_place e → ⊥
