-- Reading declarations and simple statements from left to right.
use Rattle.std.specs.Prelude.{ℕ, ◌-◌, List, [], ◌∷◌, Option, Some, None, Bool, true, false, ◌==◌, if◌then◌else◌}
use Rattle.px_expressions.specs.Lexemes.{Lexeme, same, front}
use Rattle.px_expressions.specs.declared.terminal.Terminal.{Terminal}
use Rattle.px_expressions.specs.declared.terminal.Terminal.TheVariants as T
use Rattle.px_expressions.specs.Reading.{◌>>=◌, or_else, Reader, chain_limit, base_at, stars_at, begins_type, separated_at, members_at, primary_of, unary_at, expression_at}
use Rattle.px_syntax.specs.declared.type_name.Declarator.{Declarator}
use Rattle.px_syntax.specs.declared.expression.UnaryOperator.TheVariants as U
use Rattle.px_syntax.specs.declared.expression.BinaryOperator.{BinaryOperator}
use Rattle.px_syntax.specs.declared.expression.BinaryOperator.TheVariants as O
use Rattle.px_syntax.specs.ExpressionTree.{ExpressionTree, unary, variable, call, free, get_char}
use Rattle.px_syntax.specs.StatementTree.{InitTree, DeclarationTree, SimpleTree, assign, update, increment, decrement, a_call, FirstTree, first_declaration, first_simple}

-- ---- declarations

-- stars and a name
unfoldable pub declarator_at : Reader Declarator
declarator_at ts = stars_at ts >>= λ x. front T.Name x.1 >>= λ y. Some (record { stars = x.0; name = y.0.text }, y.1)

-- a declarator, and the value that it begins with
unfoldable pub init_at : ℕ → Reader InitTree
init_at d ts = declarator_at ts >>= λ x. or_else (front T.Equal x.1)
    (λ y. expression_at d y.1 >>= λ z. Some (record { declarator = x.0; value = Some z.0 }, z.1))
    (Some (record { declarator = x.0; value = None }, x.1))

unfoldable pub declaration_at : ℕ → Reader DeclarationTree
declaration_at d ts = base_at ts >>= λ x. separated_at (init_at d) x.1 >>= λ y. Some (record { base = x.0; declarators = y.0 }, y.1)

-- ---- simple statements

-- whether a tree is a variable
abbrev pub is_variable_tree : ExpressionTree → Bool
is_variable_tree (variable n s) = true
is_variable_tree _ = false

-- whether a tree is a call
abbrev pub is_call_tree : ExpressionTree → Bool
is_call_tree (call f s es) = true
is_call_tree (free s e) = true
is_call_tree (get_char s) = true
is_call_tree _ = false

-- whether a parenthesis stands at the front
abbrev pub opens : List Lexeme → Bool
opens [] = false
opens (t ∷ ts) = same t.terminal T.OpenParenthesis

-- an lvalue that begins with no star
abbrev pub plain_lvalue_at : ℕ → Reader ExpressionTree
plain_lvalue_at d ts = primary_of d (unary_at (d - 1)) ts >>= λ x. or_else (front T.Arrow x.1)
    (λ a. members_at chain_limit x.0 x.1)
    (if opens ts then None else (if is_variable_tree x.0 then Some x else None))

-- an lvalue, where d more may be opened
unfoldable pub lvalue_at : ℕ → Reader ExpressionTree
lvalue_at d ts = or_else (front T.Star ts)
    (λ x. if d == 0 then None else (unary_at (d - 1) x.1 >>= λ y. Some (unary U.Indirection x.0.site y.0, y.1)))
    (plain_lvalue_at d ts)

-- the arithmetic operator of an assignment
abbrev pub update_of : Terminal → Option BinaryOperator
update_of T.PlusEqual = Some O.Add
update_of T.MinusEqual = Some O.Subtract
update_of T.StarEqual = Some O.Multiply
update_of _ = None

abbrev pub update_front : List Lexeme → Option (BinaryOperator × List Lexeme)
update_front [] = None
update_front (t ∷ ts) = update_of t.terminal >>= λ o. Some (o, ts)

-- what follows an lvalue that stands on the left
unfoldable pub assigned_at : ℕ → ExpressionTree → Reader SimpleTree
assigned_at d left ts =
    or_else (front T.Equal ts) (λ x. expression_at d x.1 >>= λ y. Some (assign left y.0, y.1)) (
    or_else (update_front ts) (λ x. expression_at d x.1 >>= λ y. Some (update x.0 left y.0, y.1)) (
    or_else (front T.PlusPlus ts) (λ x. Some (increment left, x.1)) (
    front T.MinusMinus ts >>= λ x. Some (decrement left, x.1))))

-- a call
unfoldable pub call_at : ℕ → Reader SimpleTree
call_at d ts = if opens ts then None else (
    primary_of d (unary_at (d - 1)) ts >>= λ x. if is_call_tree x.0 then Some (a_call x.0, x.1) else None)

unfoldable pub simple_at : ℕ → Reader SimpleTree
simple_at d ts =
    or_else (front T.PlusPlus ts) (λ x. lvalue_at d x.1 >>= λ y. Some (increment y.0, y.1)) (
    or_else (front T.MinusMinus ts) (λ x. lvalue_at d x.1 >>= λ y. Some (decrement y.0, y.1)) (
    or_else (lvalue_at d ts) (λ x. assigned_at d x.0 x.1) (
    call_at d ts)))

-- ---- the heads of statements

-- a condition in parentheses
unfoldable pub condition_at : ℕ → Reader ExpressionTree
condition_at d ts = front T.OpenParenthesis ts >>= λ x. expression_at d x.1 >>= λ y. front T.CloseParenthesis y.1 >>= λ z. Some (y.0, z.1)

-- what may be missing, up to a terminal
unfoldable pub optional_at : {A : Type 0} → Terminal → Reader A → Reader (Option A)
optional_at k part ts = or_else (front k ts) (λ x. Some (None, x.1)) (part ts >>= λ y. front k y.1 >>= λ z. Some (Some y.0, z.1))

-- the first clause of a `for`
unfoldable pub first_at : ℕ → Reader FirstTree
first_at d ts = if begins_type ts
    then (declaration_at d ts >>= λ x. Some (first_declaration x.0, x.1))
    else (simple_at d ts >>= λ x. Some (first_simple x.0, x.1))
