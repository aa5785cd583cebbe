-- Expressions of real C as plain data. What is held as its tokens is a list of lexemes.
use Rattle.std.specs.Prelude.{ℕ, List, [], ◌∷◌, Bool, true, false, Option}
use Rattle.px_base.specs.declared.trace.Site.{Site}
use Rattle.px_real_expressions.specs.Lexemes.{Lexeme}
use Rattle.px_real_expressions.specs.declared.operators.Prefix.{Prefix}
use Rattle.px_real_expressions.specs.declared.operators.Operator.{Operator}
use Rattle.px_real_expressions.specs.declared.operators.Step.{Step}
use Rattle.px_real_expressions.specs.declared.operators.Measure.{Measure}

mutual
  pub data ExpressionTree : Type 0 where
    name : List ℕ → Site → ExpressionTree
    -- a number or a character, with its value where the profile has it
    constant : Option ℕ → Site → ExpressionTree
    -- a string, or several that stand side by side
    string : Site → ExpressionTree
    -- at the `(`
    parenthesised : Site → ExpressionTree → ExpressionTree
    -- `({ .. })`, at the `(`: what stands between the braces
    statement : Site → List Lexeme → ExpressionTree
    -- `( type ) { .. }`, at the `(`: the type's name, and what stands between the braces
    literal : Site → List Lexeme → List Lexeme → ExpressionTree
    -- `_Generic ( .. )` and its like, at the word: what stands between the parentheses
    form : List ℕ → Site → List Lexeme → ExpressionTree
    -- these at the bracket, the dot, the arrow or the operator
    index : Site → ExpressionTree → ExpressionTree → ExpressionTree
    call : Site → ExpressionTree → ExpressionTrees → ExpressionTree
    member : Site → ExpressionTree → List ℕ → ExpressionTree
    pointer_member : Site → ExpressionTree → List ℕ → ExpressionTree
    step : Step → Site → ExpressionTree → ExpressionTree
    prefixed : Prefix → Site → ExpressionTree → ExpressionTree
    -- `&& NAME`, the address of a label
    label : List ℕ → Site → ExpressionTree
    -- `sizeof` and its like of an expression, and of a type
    measure : Measure → Site → ExpressionTree → ExpressionTree
    measure_type : Measure → Site → List Lexeme → ExpressionTree
    -- at the `(`
    cast : Site → List Lexeme → ExpressionTree → ExpressionTree
    binary : Operator → Site → ExpressionTree → ExpressionTree → ExpressionTree
    -- at the `?`: a condition and two expressions, or one, where the condition is the other
    choice : Site → ExpressionTree → ExpressionTree → ExpressionTree → ExpressionTree
    choice_or : Site → ExpressionTree → ExpressionTree → ExpressionTree
    -- with the operator that goes with it, if one does
    assign : Option Operator → Site → ExpressionTree → ExpressionTree → ExpressionTree

  pub data ExpressionTrees : Type 0 where
    no_expressions : ExpressionTrees
    an_expression : ExpressionTree → ExpressionTrees → ExpressionTrees

abbrev pub expressions_of : List ExpressionTree → ExpressionTrees
expressions_of [] = no_expressions
expressions_of (e ∷ rest) = an_expression e (expressions_of rest)

-- whether it is a unary expression: neither a cast, nor with an operator between operands
abbrev pub is_unary : ExpressionTree → Bool
is_unary (cast s ts e) = false
is_unary (binary o s a b) = false
is_unary (choice s c a b) = false
is_unary (choice_or s c b) = false
is_unary (assign o s a b) = false
is_unary _ = true
