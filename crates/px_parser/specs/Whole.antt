-- What is read of all lexemes.
use Rattle.std.specs.Prelude.{List, [], ◌∷◌, Option, Some, None}
use Rattle.px_expressions.specs.Lexemes.{Lexeme}

abbrev pub if_all : {A : Type 0} → A → List Lexeme → Option A
if_all a [] = Some a
if_all a (t ∷ ts) = None

-- the value, where nothing is left
abbrev pub whole : {A : Type 0} → Option (A × List Lexeme) → Option A
whole None = None
whole (Some x) = if_all x.0 x.1
