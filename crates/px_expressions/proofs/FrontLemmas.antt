-- What stands at the front, by the terminal that is kept of it.
use Rattle.std.proofs.Common.{◌≡◌, ℕ, true, List, [], ◌∷◌, Some}
use Rattle.px_lexer.specs.Lent.{as_tokens}
use Rattle.px_expressions.specs.declared.symbol.Input.{Input}
use Rattle.px_expressions.specs.declared.terminal.Terminal.{Terminal}
use Rattle.px_expressions.specs.Lexemes.{Lexeme, led_by, lexemes, seen, same, front}
use Rattle.px_expressions.specs.Reading.{operator_at, prefix_of, operator_front, prefix_front}
use Rattle.px_syntax.specs.declared.expression.BinaryOperator.{BinaryOperator}
use Rattle.px_syntax.specs.declared.expression.UnaryOperator.{UnaryOperator}

front_led : (k j : Terminal) (all rest : List Lexeme) (x : Lexeme) → same j k ≡ true → led_by j all ≡ x ∷ rest → Some (x, rest) ≡ front k (led_by j all)
front_led k j [] rest x h e = absurd cc
front_led k j (t ∷ ts) rest x h e = rw h cc

pub front_kept : (k : Terminal) (i : Input) (rest : List Lexeme) (x : Lexeme) → same i.terminal k ≡ true → seen i ≡ x ∷ rest → Some (x, rest) ≡ front k (seen i)
front_kept k i = front_led k i.terminal (lexemes i.source.now (as_tokens i.tokens))

operator_led : (level : ℕ) (j : Terminal) (all rest : List Lexeme) (x : Lexeme) (o : BinaryOperator) → Some o ≡ operator_at level j → led_by j all ≡ x ∷ rest →
    Some (o, x, rest) ≡ operator_front level (led_by j all)
operator_led level j [] rest x o h e = absurd cc
operator_led level j (t ∷ ts) rest x o h e = rw (← h) cc

pub operator_kept : (level : ℕ) (i : Input) (rest : List Lexeme) (x : Lexeme) (o : BinaryOperator) → Some o ≡ operator_at level i.terminal → seen i ≡ x ∷ rest →
    Some (o, x, rest) ≡ operator_front level (seen i)
operator_kept level i = operator_led level i.terminal (lexemes i.source.now (as_tokens i.tokens))

prefix_led : (j : Terminal) (all rest : List Lexeme) (x : Lexeme) (o : UnaryOperator) → Some o ≡ prefix_of j → led_by j all ≡ x ∷ rest → Some (o, x, rest) ≡ prefix_front (led_by j all)
prefix_led j [] rest x o h e = absurd cc
prefix_led j (t ∷ ts) rest x o h e = rw (← h) cc

pub prefix_kept : (i : Input) (rest : List Lexeme) (x : Lexeme) (o : UnaryOperator) → Some o ≡ prefix_of i.terminal → seen i ≡ x ∷ rest → Some (o, x, rest) ≡ prefix_front (seen i)
prefix_kept i = prefix_led i.terminal (lexemes i.source.now (as_tokens i.tokens))
