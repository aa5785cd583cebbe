-- Tokens as the grammar sees them.
use Rattle.std.specs.Prelude.{List, [], ◌∷◌, ℕ, Bool, Option, Some, None, map, take, drop, ◌-◌, if◌then◌else◌}
use denote.Enum.Bare.{sameb}
use Rattle.px_base.specs.declared.trace.Site.{Site}
use Rattle.px_lexer.specs.declared.token.Token.{Token}
use Rattle.px_lexer.specs.Lent.{as_tokens}
use Rattle.px_expressions.specs.declared.terminal.Terminal.{Terminal}
use Rattle.px_expressions.specs.contracts.terminal.Terminal.{the_type}
use Rattle.px_expressions.specs.declared.symbol.Symbol.{Symbol}
use Rattle.px_expressions.specs.declared.symbol.Input.{Input}
use Rattle.px_expressions.specs.Terminals.{terminal_of}

-- a terminal, where it stands and its text
pub record Lexeme : Type 0 where
  pub terminal : Terminal
  pub site : Site
  pub text : List ℕ

-- the bytes of a source from a start up to an end
abbrev pub text_of : List ℕ → ℕ → ℕ → List ℕ
text_of source start end = take (end - start) (drop start source)

abbrev pub token_text : List ℕ → Token → List ℕ
token_text source t = text_of source t.start t.end

-- a token of a source as the grammar sees it
abbrev pub lexeme : List ℕ → Token → Lexeme
lexeme source t = record { terminal = terminal_of (token_text source t) t.kind; site = t.site; text = token_text source t }

abbrev pub lexemes : List ℕ → List Token → List Lexeme
lexemes source = map (lexeme source)

abbrev pub see : List ℕ → Symbol → Lexeme
see source s = record { terminal = s.terminal; site = s.site; text = text_of source s.start s.end }

-- the lexemes with this terminal at the first
abbrev pub led_by : Terminal → List Lexeme → List Lexeme
led_by k [] = []
led_by k (t ∷ ts) = record { terminal = k; site = t.site; text = t.text } ∷ ts

abbrev pub seen : Input → List Lexeme
seen i = led_by i.terminal (lexemes i.source.now (as_tokens i.tokens))

abbrev pub same : Terminal → Terminal → Bool
same = sameb the_type

-- the lexeme at the front where it is that terminal, and those after it
abbrev pub front : Terminal → List Lexeme → Option (Lexeme × List Lexeme)
front k [] = None
front k (t ∷ ts) = if same t.terminal k then Some (t, ts) else None
