-- Tokens as the grammar of expressions sees them.
use Rattle.std.specs.Prelude.{ℕ, ◌-◌, List, [], ◌∷◌, map, take, drop, Bool, Option, Some, None}
use Rattle.px_expressions.specs.Lexemes.{text_of}
use Rattle.px_real_tokens.specs.declared.token.Token.{Token}
use Rattle.px_real_expressions.specs.Lexemes.{Lexeme}
use Rattle.px_real_symbols.specs.Words.{terminal_of, value_of}
use Rattle.px_real_symbols.specs.declared.symbol.Symbol.{Symbol}
use Rattle.px_real_symbols.specs.declared.symbol.Tokens.{Tokens}
use Rattle.px_real_symbols.specs.declared.held.Span.{Span}

-- a token of a source, where these words are names of types
abbrev pub lexeme : (List ℕ → Bool) → List ℕ → Token → Lexeme
lexeme types source t = record { terminal = terminal_of types (text_of source t.start t.end) t.kind; site = t.site; text = text_of source t.start t.end; value = value_of t.kind }

abbrev pub lexemes : (List ℕ → Bool) → List ℕ → List Token → List Lexeme
lexemes types source = map (lexeme types source)

abbrev pub see : List ℕ → Symbol → Lexeme
see source s = record { terminal = s.terminal; site = s.site; text = text_of source s.start s.end; value = s.value }

-- all that is read
abbrev pub seen : Tokens → List Lexeme
seen on = map (see on.source.now) on.symbols.now

-- the lexeme at the front, and those after it
abbrev pub first : List Lexeme → Option (Lexeme × List Lexeme)
first [] = None
first (t ∷ ts) = Some (t, ts)

-- the lexemes that are held
abbrev pub held_in : List Lexeme → Span → List Lexeme
held_in all s = take (s.after - s.first) (drop s.first all)
