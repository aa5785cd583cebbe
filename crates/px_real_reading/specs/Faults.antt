-- Where tokens that are no expression go wrong.
use Rattle.std.specs.Prelude.{◌≡◌, ℕ, ◌≤◌, List, [], ◌∷◌, length, drop, Result, Ok, Err}
use Rattle.px_real_expressions.specs.Lexemes.{Lexeme}
use Rattle.px_real_expressions.specs.ExpressionTree.{ExpressionTree}
use Rattle.px_real_expressions.specs.Grammar.{IsExpression}
use Rattle.px_real_expressions.specs.Stops.{Stop, wrong, deep, ◌>>=◌}
use Rattle.px_real_expressions.specs.Reading.{expression_at}

-- how many brackets, operators before their operands, choices and assignments may stand within one another
abbrev pub nesting_limit : ℕ
nesting_limit = 200

-- the tree, where nothing is left
abbrev pub all_read : ExpressionTree → List Lexeme → Result ExpressionTree Stop
all_read e [] = Ok e
all_read e (t ∷ ts) = Err (wrong (t ∷ ts))

-- the expression that all lexemes are, where d more may be opened
abbrev pub whole_at : ℕ → List Lexeme → Result ExpressionTree Stop
whole_at d ts = expression_at d ts >>= λ x. all_read x.0 x.1

-- they are no expression, however many may be opened, and reading them stops at the lexeme with this number, or at their end
pub record GoesWrong (at : ℕ) (ts : List Lexeme) : Type 0 where
  pub never : (d : ℕ) (e : ExpressionTree) → IsExpression d ts e → ⊥
  pub within : at ≤ length ts
  pub stops : whole_at nesting_limit ts ≡ Err (wrong (drop at ts))

-- they are no expression where no more than the limit may be opened, and the lexeme with this number would be one more
pub record NestsTooDeep (at : ℕ) (ts : List Lexeme) : Type 0 where
  pub none : (e : ExpressionTree) → IsExpression nesting_limit ts e → ⊥
  pub within : at ≤ length ts
  pub stops : whole_at nesting_limit ts ≡ Err (deep (drop at ts))
