-- What terminals are before, between and after operands, and how loosely they tie (C11 6.5).
use Rattle.std.specs.Prelude.{ℕ, ◌==◌, List, [], ◌∷◌, Bool, true, false, Option, Some, None, if◌then◌else◌}
use Rattle.px_expressions.specs.Reading.{◌>>=◌}
use Rattle.px_real_expressions.specs.Lexemes.{Lexeme}
use Rattle.px_real_expressions.specs.declared.terminal.Terminal.{Terminal}
use Rattle.px_real_expressions.specs.declared.terminal.Terminal.TheVariants as T
use Rattle.px_real_expressions.specs.declared.operators.Prefix.{Prefix}
use Rattle.px_real_expressions.specs.declared.operators.Prefix.TheVariants as P
use Rattle.px_real_expressions.specs.declared.operators.Operator.{Operator}
use Rattle.px_real_expressions.specs.declared.operators.Operator.TheVariants as O
use Rattle.px_real_expressions.specs.declared.operators.Step.{Step}
use Rattle.px_real_expressions.specs.declared.operators.Step.TheVariants as S
use Rattle.px_real_expressions.specs.declared.operators.Measure.{Measure}
use Rattle.px_real_expressions.specs.declared.operators.Measure.TheVariants as M

-- how loosely a terminal ties what stands before it to what follows: 0 within an operand, 1 to 10 the binary operators,
-- 11 the conditional operator, 12 assignment, 13 the comma, and 14 what ends an expression
abbrev pub level_of : Terminal → ℕ
level_of T.OpenBrace = 0
level_of T.OpenParenthesis = 0
level_of T.OpenBracket = 0
level_of T.Dot = 0
level_of T.Arrow = 0
level_of T.PlusPlus = 0
level_of T.MinusMinus = 0
level_of T.String = 0
level_of T.Star = 1
level_of T.Slash = 1
level_of T.Percent = 1
level_of T.Plus = 2
level_of T.Minus = 2
level_of T.ShiftLeft = 3
level_of T.ShiftRight = 3
level_of T.Less = 4
level_of T.Greater = 4
level_of T.LessEqual = 4
level_of T.GreaterEqual = 4
level_of T.EqualEqual = 5
level_of T.NotEqual = 5
level_of T.Ampersand = 6
level_of T.Caret = 7
level_of T.Bar = 8
level_of T.AndAnd = 9
level_of T.OrOr = 10
level_of T.Question = 11
level_of T.Equal = 12
level_of T.StarEqual = 12
level_of T.SlashEqual = 12
level_of T.PercentEqual = 12
level_of T.PlusEqual = 12
level_of T.MinusEqual = 12
level_of T.ShiftLeftEqual = 12
level_of T.ShiftRightEqual = 12
level_of T.AmpersandEqual = 12
level_of T.CaretEqual = 12
level_of T.BarEqual = 12
level_of T.Comma = 13
level_of _ = 14

-- a word that begins the name of a type
abbrev pub begins_type : Terminal → Bool
begins_type T.Type = true
begins_type T.TypeName = true
begins_type _ = false

-- a word that is no keyword: members and labels have names of their own, which may be those of types too (6.2.3)
abbrev pub is_identifier : Terminal → Bool
is_identifier T.Name = true
is_identifier T.TypeName = true
is_identifier _ = false

-- what begins an expression
abbrev pub begins_expression : Terminal → Bool
begins_expression T.Name = true
begins_expression T.Constant = true
begins_expression T.String = true
begins_expression T.Form = true
begins_expression T.Sizeof = true
begins_expression T.Alignof = true
begins_expression T.Extension = true
begins_expression T.Real = true
begins_expression T.Imaginary = true
begins_expression T.OpenParenthesis = true
begins_expression T.PlusPlus = true
begins_expression T.MinusMinus = true
begins_expression T.Ampersand = true
begins_expression T.Star = true
begins_expression T.Plus = true
begins_expression T.Minus = true
begins_expression T.Tilde = true
begins_expression T.Not = true
begins_expression T.AndAnd = true
begins_expression _ = false

-- what may stand behind an opening parenthesis: an expression, or the brace of a statement expression
abbrev pub opens_group : Terminal → Bool
opens_group T.OpenBrace = true
opens_group k = begins_expression k

-- C11 6.5.5 to 6.5.14, and 6.5.17
abbrev pub binary_of : Terminal → Option Operator
binary_of T.Star = Some O.Multiply
binary_of T.Slash = Some O.Divide
binary_of T.Percent = Some O.Remainder
binary_of T.Plus = Some O.Add
binary_of T.Minus = Some O.Subtract
binary_of T.ShiftLeft = Some O.ShiftLeft
binary_of T.ShiftRight = Some O.ShiftRight
binary_of T.Less = Some O.Less
binary_of T.Greater = Some O.Greater
binary_of T.LessEqual = Some O.LessEqual
binary_of T.GreaterEqual = Some O.GreaterEqual
binary_of T.EqualEqual = Some O.Equal
binary_of T.NotEqual = Some O.NotEqual
binary_of T.Ampersand = Some O.BitAnd
binary_of T.Caret = Some O.BitXor
binary_of T.Bar = Some O.BitOr
binary_of T.AndAnd = Some O.And
binary_of T.OrOr = Some O.Or
binary_of T.Comma = Some O.Comma
binary_of _ = None

-- the operator that a terminal is at this level
abbrev pub operator_at : ℕ → Terminal → Option Operator
operator_at k terminal = if level_of terminal == k then binary_of terminal else None

-- C11 6.5.16; the operator that goes with an assignment, if one does
abbrev pub assignment_of : Terminal → Option (Option Operator)
assignment_of T.Equal = Some None
assignment_of T.StarEqual = Some (Some O.Multiply)
assignment_of T.SlashEqual = Some (Some O.Divide)
assignment_of T.PercentEqual = Some (Some O.Remainder)
assignment_of T.PlusEqual = Some (Some O.Add)
assignment_of T.MinusEqual = Some (Some O.Subtract)
assignment_of T.ShiftLeftEqual = Some (Some O.ShiftLeft)
assignment_of T.ShiftRightEqual = Some (Some O.ShiftRight)
assignment_of T.AmpersandEqual = Some (Some O.BitAnd)
assignment_of T.CaretEqual = Some (Some O.BitXor)
assignment_of T.BarEqual = Some (Some O.BitOr)
assignment_of _ = None

-- C11 6.5.3, with GNU's `__extension__`, `__real__` and `__imag__`
abbrev pub prefix_of : Terminal → Option Prefix
prefix_of T.Ampersand = Some P.Address
prefix_of T.Star = Some P.Indirection
prefix_of T.Plus = Some P.Plus
prefix_of T.Minus = Some P.Minus
prefix_of T.Tilde = Some P.Complement
prefix_of T.Not = Some P.Not
prefix_of T.PlusPlus = Some P.Increment
prefix_of T.MinusMinus = Some P.Decrement
prefix_of T.Extension = Some P.Extension
prefix_of T.Real = Some P.Real
prefix_of T.Imaginary = Some P.Imaginary
prefix_of _ = None

-- `++` and `--` stand before a unary expression, which no cast is
abbrev pub wants_unary : Prefix → Bool
wants_unary P.Increment = true
wants_unary P.Decrement = true
wants_unary _ = false

abbrev pub step_of : Terminal → Option Step
step_of T.PlusPlus = Some S.Increment
step_of T.MinusMinus = Some S.Decrement
step_of _ = None

abbrev pub measure_of : Terminal → Option Measure
measure_of T.Sizeof = Some M.Size
measure_of T.Alignof = Some M.Alignment
measure_of _ = None

-- what a table gives of the terminal at the front, and the lexemes from there
abbrev pub front_by : {A : Type 0} → (Terminal → Option A) → List Lexeme → Option (A × Lexeme × List Lexeme)
front_by f [] = None
front_by f (t ∷ ts) = f t.terminal >>= λ x. Some (x, t, ts)
