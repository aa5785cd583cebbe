-- The reader of a unary, at any depth, and what its branches give.
use Rattle.std.proofs.Common.{◌≡◌, ℕ, zero, suc, ◌-◌, ◌<◌, List, [], ◌∷◌, Some, None, refl, arith}
use Rattle.px_expressions.specs.Lexemes.{Lexeme, front}
use Rattle.px_expressions.specs.declared.fault.Fault.{Fault}
use Rattle.px_expressions.specs.declared.fault.Fault.TheVariants.{NoMemory, NoParse}
use Rattle.px_expressions.specs.declared.terminal.Terminal.{Terminal}
use Rattle.px_expressions.specs.declared.terminal.Terminal.TheVariants as T
use Rattle.px_expressions.specs.Reading.{Reader, IsFaultOf, levels_at, arguments_at, named_at, free_at, parenthesised_at, primary_by, primary_of, postfix_of, unary_of, unary_at, prefix_front}
use Rattle.px_expressions.proofs.ExactTools.{positive}
use Rattle.px_syntax.specs.declared.expression.UnaryOperator.{UnaryOperator}
use Rattle.px_syntax.specs.ExpressionTree.{ExpressionTree, expressions_of, unary, call}

-- where nothing may be opened it doesn't matter what is read inside
by_terminal_zero : (k : Terminal) (f g : Reader ExpressionTree) (t : Lexeme) (ts : List Lexeme) → primary_by k 0 f t ts ≡ primary_by k 0 g t ts
unfolding named_at free_at parenthesised_at
by_terminal_zero T.Name f g t ts = refl
by_terminal_zero T.Free f g t ts = refl
by_terminal_zero T.OpenParenthesis f g t ts = refl
by_terminal_zero _ f g t ts = refl

primary_zero : (f g : Reader ExpressionTree) (ts : List Lexeme) → primary_of 0 f ts ≡ primary_of 0 g ts
unfolding primary_of
primary_zero f g [] = refl
primary_zero f g (t ∷ ts) = by_terminal_zero t.terminal f g t ts

unary_zero : (f g : Reader ExpressionTree) (ts : List Lexeme) → unary_of 0 f ts ≡ unary_of 0 g ts
unfolding unary_of postfix_of
unary_zero f g ts = rw (primary_zero f g ts) refl

pub unary_is : (d : ℕ) (ts : List Lexeme) → unary_at d ts ≡ unary_of d (unary_at (d - 1)) ts
unfolding unary_at
unary_is zero ts = unary_zero _ _ ts
unary_is (suc d) ts = let e : suc d - 1 ≡ d = omega arith in rw e refl

abbrev Prefix : Type 0
Prefix = UnaryOperator × Lexeme × List Lexeme

pub unary_shut : (d : ℕ) (ts : List Lexeme) (x : Prefix) → Some x ≡ prefix_front ts → d ≡ 0 → unary_at d ts ≡ None
unfolding unary_of
unary_shut d ts x h z = rw (unary_is, ← h, z) refl

pub unary_err : (e : Fault) (d : ℕ) (ts : List Lexeme) (x : Prefix) → Some x ≡ prefix_front ts → 0 < d → IsFaultOf e (unary_at (d - 1) x.2) → IsFaultOf e (unary_at d ts)
unfolding unary_of
unary_err NoMemory d ts x h z f = tt
unary_err NoParse d ts x h z f = rw (unary_is, ← h, positive d z, f) refl

pub unary_prefixed : (d : ℕ) (ts : List Lexeme) (x : Prefix) (y : ExpressionTree × List Lexeme) → Some x ≡ prefix_front ts → 0 < d → unary_at (d - 1) x.2 ≡ Some y →
    unary_at d ts ≡ Some (unary x.0 x.1.site y.0, y.1)
unfolding unary_of
unary_prefixed d ts x y h z f = rw (unary_is, ← h, positive d z, f) refl

pub unary_plain : (d : ℕ) (ts : List Lexeme) → None ≡ prefix_front ts → unary_at d ts ≡ postfix_of d (unary_at (d - 1)) ts
unfolding unary_of
unary_plain d ts h = rw (unary_is, ← h) refl

-- ---- calls

pub named_call : (d : ℕ) (inner : Reader ExpressionTree) (t : Lexeme) (ts : List Lexeme) (x : Lexeme × List Lexeme) (y : List ExpressionTree × List Lexeme) →
    Some x ≡ front T.OpenParenthesis ts → 0 < d → arguments_at (levels_at 6 inner) x.1 ≡ Some y →
    named_at d inner t ts ≡ Some (call t.text t.site (expressions_of y.0), y.1)
unfolding named_at
named_call d inner t ts x y h z f = rw (← h, positive d z, f) refl
