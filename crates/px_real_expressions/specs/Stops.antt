-- What reading gives: a value and the lexemes after it, or the place where it stops.
use Rattle.std.specs.Prelude.{List, Result, Ok, Err}
use Rattle.px_expressions.specs.Reading.{or_else}
use Rattle.px_real_expressions.specs.Lexemes.{Lexeme, front}
use Rattle.px_real_expressions.specs.declared.terminal.Terminal.{Terminal}

-- the lexemes from the first on with which no expression goes on, and from the first on that nests too deep
pub data Stop : Type 0 where
  wrong : List Lexeme → Stop
  deep : List Lexeme → Stop

abbrev pub Read : Type 0 → Type 0
Read A = Result (A × List Lexeme) Stop

infixl 10 ◌>>=◌
abbrev pub ◌>>=◌ : {A B : Type 0} → Result A Stop → (A → Result B Stop) → Result B Stop
(Ok x) >>= f = f x
(Err e) >>= f = Err e

-- the lexeme at the front, which must be that terminal
abbrev pub expect : Terminal → List Lexeme → Result (Lexeme × List Lexeme) Stop
expect k ts = or_else (front k ts) Ok (Err (wrong ts))
