-- Reading from left to right: a tree and the lexemes after it, or none.
use Rattle.std.specs.Prelude.{◌≡◌, ℕ, zero, suc, ◌*◌, ◌+◌, ◌-◌, List, [], ◌∷◌, ◌++◌, length, Option, Some, None, Result, Ok, Err, Bool, true, false, ◌==◌, nat_lt, if◌then◌else◌}
use Rattle.px_expressions.specs.declared.fault.Fault.{Fault}
use Rattle.px_expressions.specs.declared.fault.Fault.TheVariants.{NoMemory, NoParse}
use Rattle.px_expressions.specs.Lexemes.{Lexeme, same, front}
use Rattle.px_expressions.specs.declared.terminal.Terminal.{Terminal}
use Rattle.px_expressions.specs.declared.terminal.Terminal.TheVariants as T
use Rattle.px_syntax.specs.declared.type_name.Base.{Base}
use Rattle.px_syntax.specs.declared.type_name.Base.TheVariants as B
use Rattle.px_syntax.specs.declared.type_name.TypeName.{TypeName}
use Rattle.px_syntax.specs.declared.expression.UnaryOperator.{UnaryOperator}
use Rattle.px_syntax.specs.declared.expression.UnaryOperator.TheVariants as U
use Rattle.px_syntax.specs.declared.expression.BinaryOperator.{BinaryOperator}
use Rattle.px_syntax.specs.declared.expression.BinaryOperator.TheVariants as O
use Rattle.px_syntax.specs.ExpressionTree.{ExpressionTree, expressions_of, constant, null, variable, unary, binary, member, call, free, get_char, malloc}

infixl 10 ◌>>=◌
abbrev pub ◌>>=◌ : {A B : Type 0} → Option A → (A → Option B) → Option B
(Some x) >>= f = f x
None >>= f = None

-- the first where there is a value, else the second
abbrev pub or_else : {A B : Type 0} → Option A → (A → B) → B → B
or_else (Some x) f d = f x
or_else None f d = d

abbrev pub Reader : Type 0 → Type 0
Reader A = List Lexeme → Option (A × List Lexeme)

-- what a function answers is what reading gives, unless memory ran out
abbrev pub IsFaultOf : {Y : Type 0} → Fault → Option Y → Type 0
IsFaultOf NoMemory read = Unit {0}
IsFaultOf NoParse read = read ≡ None

abbrev pub Gives : {X Y : Type 0} → (X → Y) → Result X Fault → Option Y → Type 0
Gives view (Ok x) read = read ≡ Some (view x)
Gives view (Err e) read = IsFaultOf e read

-- how many operators or arrows one chain has at most
abbrev pub chain_limit : ℕ
chain_limit = 200

-- ---- lists with commas between

-- at most n times a comma and an item, after the items before
unfoldable pub more_items : {A : Type 0} → ℕ → Reader A → List A → Reader (List A)
more_items zero part before ts = Some (before, ts)
more_items (suc n) part before ts = or_else (front T.Comma ts)
    (λ x. part x.1 >>= λ y. more_items n part (before ++ y.0 ∷ []) y.1)
    (Some (before, ts))

-- an item, and as many more as follow
unfoldable pub separated_at : {A : Type 0} → Reader A → Reader (List A)
separated_at part ts = part ts >>= λ x. more_items (length x.1) part (x.0 ∷ []) x.1

-- ---- constants

-- the number of these digits, after those that gave n
abbrev pub decimal_from : ℕ → List ℕ → ℕ
decimal_from n [] = n
decimal_from n (b ∷ bs) = decimal_from (n * 10 + (b - 48)) bs

-- the value of a decimal constant, where an `int` has it
abbrev pub constant_value : List ℕ → Option ℕ
constant_value text = if nat_lt (decimal_from 0 text) 2147483648 then Some (decimal_from 0 text) else None

-- ---- types

unfoldable pub base_at : Reader Base
base_at ts = or_else (front T.Int ts) (λ x. Some (B.Int, x.1)) (
    front T.Struct ts >>= λ x. front T.Name x.1 >>= λ y. Some (B.Struct y.0.text, y.1))

-- at most two stars
unfoldable pub stars_at : Reader ℕ
stars_at ts = or_else (front T.Star ts)
    (λ x. or_else (front T.Star x.1) (λ y. Some (2, y.1)) (Some (1, x.1)))
    (Some (0, ts))

unfoldable pub type_at : Reader TypeName
type_at ts = base_at ts >>= λ x. stars_at x.1 >>= λ y. Some (record { base = x.0; stars = y.0 }, y.1)

-- whether a type begins here
abbrev pub begins_type : List Lexeme → Bool
begins_type [] = false
begins_type (t ∷ ts) = if same t.terminal T.Int then true else same t.terminal T.Struct

-- ---- operators

-- how loosely a terminal ties what stands before it to what follows
abbrev pub level_of : Terminal → ℕ
level_of T.Arrow = 0
level_of T.OpenParenthesis = 0
level_of T.Star = 1
level_of T.Slash = 1
level_of T.Percent = 1
level_of T.Plus = 2
level_of T.Minus = 2
level_of T.Less = 3
level_of T.LessEqual = 3
level_of T.Greater = 3
level_of T.GreaterEqual = 3
level_of T.EqualEqual = 4
level_of T.NotEqual = 4
level_of T.AndAnd = 5
level_of T.OrOr = 6
level_of _ = 7

abbrev pub binary_of : Terminal → Option BinaryOperator
binary_of T.Star = Some O.Multiply
binary_of T.Slash = Some O.Divide
binary_of T.Percent = Some O.Remainder
binary_of T.Plus = Some O.Add
binary_of T.Minus = Some O.Subtract
binary_of T.Less = Some O.Less
binary_of T.LessEqual = Some O.LessEqual
binary_of T.Greater = Some O.Greater
binary_of T.GreaterEqual = Some O.GreaterEqual
binary_of T.EqualEqual = Some O.Equal
binary_of T.NotEqual = Some O.NotEqual
binary_of T.AndAnd = Some O.And
binary_of T.OrOr = Some O.Or
binary_of _ = None

-- the operator that a terminal is at this level: * / % 1, + - 2, orders 3, equalities 4, && 5, || 6
abbrev pub operator_at : ℕ → Terminal → Option BinaryOperator
operator_at k terminal = if level_of terminal == k then binary_of terminal else None

abbrev pub prefix_of : Terminal → Option UnaryOperator
prefix_of T.Minus = Some U.Minus
prefix_of T.Not = Some U.Not
prefix_of T.Star = Some U.Indirection
prefix_of _ = None

-- the operator of level k at the front
abbrev pub operator_front : ℕ → List Lexeme → Option (BinaryOperator × Lexeme × List Lexeme)
operator_front k [] = None
operator_front k (t ∷ ts) = operator_at k t.terminal >>= λ o. Some (o, t, ts)

-- the operator before an operand
abbrev pub prefix_front : List Lexeme → Option (UnaryOperator × Lexeme × List Lexeme)
prefix_front [] = None
prefix_front (t ∷ ts) = prefix_of t.terminal >>= λ o. Some (o, t, ts)

-- at most n operators of level k, each with its right operand
unfoldable pub more_at : ℕ → ℕ → Reader ExpressionTree → ExpressionTree → Reader ExpressionTree
more_at zero k part left ts = Some (left, ts)
more_at (suc n) k part left ts = or_else (operator_front k ts)
    (λ x. part x.2 >>= λ y. more_at n k part (binary x.0 x.1.site left y.0) y.1)
    (Some (left, ts))

-- the operators of the levels up to k
unfoldable pub levels_at : ℕ → Reader ExpressionTree → Reader ExpressionTree
levels_at zero inner ts = inner ts
levels_at (suc k) inner ts = levels_at k inner ts >>= λ x. more_at chain_limit (suc k) (levels_at k inner) x.0 x.1

-- the name at the front
abbrev pub name_at : Reader (List ℕ)
name_at ts = front T.Name ts >>= λ y. Some (y.0.text, y.1)

-- at most n arrows, each with a name
unfoldable pub members_at : ℕ → ExpressionTree → Reader ExpressionTree
members_at zero left ts = Some (left, ts)
members_at (suc n) left ts = or_else (front T.Arrow ts)
    (λ x. name_at x.1 >>= λ y. members_at n (member left y.0 x.0.site) y.1)
    (Some (left, ts))

-- ---- primaries

-- the arguments up to the closing parenthesis
unfoldable pub arguments_at : Reader ExpressionTree → Reader (List ExpressionTree)
arguments_at part ts = or_else (front T.CloseParenthesis ts) (λ x. Some ([], x.1))
    (separated_at part ts >>= λ y. front T.CloseParenthesis y.1 >>= λ z. Some (y.0, z.1))

-- a constant, which t is
abbrev pub constant_at : Lexeme → Reader ExpressionTree
constant_at t ts = constant_value t.text >>= λ v. Some (constant v t.site, ts)

-- a variable, or a call where a parenthesis opens after its name
unfoldable pub named_at : ℕ → Reader ExpressionTree → Lexeme → Reader ExpressionTree
named_at d inner t ts = or_else (front T.OpenParenthesis ts)
    (λ x. if d == 0 then None else (arguments_at (levels_at 6 inner) x.1 >>= λ y. Some (call t.text t.site (expressions_of y.0), y.1)))
    (Some (variable t.text t.site, ts))

-- an expression up to the closing parenthesis
unfoldable pub closed_at : Reader ExpressionTree → Reader ExpressionTree
closed_at part ts = part ts >>= λ x. front T.CloseParenthesis x.1 >>= λ y. Some (x.0, y.1)

-- what follows the word `free`
unfoldable pub free_at : ℕ → Reader ExpressionTree → Lexeme → Reader ExpressionTree
free_at d inner t ts = if d == 0 then None else (
    front T.OpenParenthesis ts >>= λ x. closed_at (levels_at 6 inner) x.1 >>= λ y. Some (free t.site y.0, y.1))

-- what follows the word `getchar`
unfoldable pub get_char_at : ℕ → Lexeme → Reader ExpressionTree
get_char_at d t ts = if d == 0 then None else (
    front T.OpenParenthesis ts >>= λ x. front T.CloseParenthesis x.1 >>= λ y. Some (get_char t.site, y.1))

-- what follows the word `malloc`
unfoldable pub malloc_at : ℕ → Option TypeName → Lexeme → Reader ExpressionTree
malloc_at d cast t ts = if nat_lt d 2 then None else (
    front T.OpenParenthesis ts >>= λ a. front T.Sizeof a.1 >>= λ b. front T.OpenParenthesis b.1 >>= λ c.
    type_at c.1 >>= λ x. front T.CloseParenthesis x.1 >>= λ y. front T.CloseParenthesis y.1 >>= λ z.
    Some (malloc cast t.site x.0, z.1))

-- what follows the parenthesis that opens a cast
unfoldable pub cast_at : ℕ → Reader ExpressionTree
cast_at d ts = type_at ts >>= λ x. front T.CloseParenthesis x.1 >>= λ y. front T.Malloc y.1 >>= λ z. malloc_at d (Some x.0) z.0 z.1

-- what follows a parenthesis that opens no call
unfoldable pub parenthesised_at : ℕ → Reader ExpressionTree → Reader ExpressionTree
parenthesised_at d inner ts = if d == 0 then None else (if begins_type ts then cast_at d ts else closed_at (levels_at 6 inner) ts)

-- a primary by its first terminal, which t has
abbrev pub primary_by : Terminal → ℕ → Reader ExpressionTree → Lexeme → Reader ExpressionTree
primary_by T.Constant d inner t ts = constant_at t ts
primary_by T.Null d inner t ts = Some (null t.site, ts)
primary_by T.Name d inner t ts = named_at d inner t ts
primary_by T.Free d inner t ts = free_at d inner t ts
primary_by T.GetChar d inner t ts = get_char_at d t ts
primary_by T.Malloc d inner t ts = malloc_at d None t ts
primary_by T.OpenParenthesis d inner t ts = parenthesised_at d inner ts
primary_by _ d inner t ts = None

unfoldable pub primary_of : ℕ → Reader ExpressionTree → Reader ExpressionTree
primary_of d inner [] = None
primary_of d inner (t ∷ ts) = primary_by t.terminal d inner t ts

-- ---- unaries, where d more may be opened

unfoldable pub postfix_of : ℕ → Reader ExpressionTree → Reader ExpressionTree
postfix_of d inner ts = primary_of d inner ts >>= λ x. members_at chain_limit x.0 x.1

unfoldable pub unary_of : ℕ → Reader ExpressionTree → Reader ExpressionTree
unary_of d inner ts = or_else (prefix_front ts)
    (λ x. if d == 0 then None else (inner x.2 >>= λ y. Some (unary x.0 x.1.site y.0, y.1)))
    (postfix_of d inner ts)

unfoldable pub unary_at : ℕ → Reader ExpressionTree
unary_at zero ts = unary_of zero (λ rest. None) ts
unary_at (suc d) ts = unary_of (suc d) (unary_at d) ts

unfoldable pub expression_at : ℕ → Reader ExpressionTree
expression_at d ts = levels_at 6 (unary_at d) ts
