-- What stands up to a semicolon or a colon.
use Rattle.std.specs.Prelude.{◌≡◌, List, [], ◌∷◌, ◌++◌, Bool, true, false, Some}
use Rattle.px_real_expressions.specs.Lexemes.{Lexeme}
use Rattle.px_real_expressions.specs.Held.{closing, Balanced}
use Rattle.px_real_expressions.specs.declared.terminal.Terminal.{Terminal}
use Rattle.px_real_expressions.specs.declared.terminal.Terminal.TheVariants as T

-- neither a bracket, nor `?` or `:`, nor a semicolon
abbrev pub is_loose : Terminal → Bool
is_loose T.OpenParenthesis = false
is_loose T.CloseParenthesis = false
is_loose T.OpenBracket = false
is_loose T.CloseBracket = false
is_loose T.OpenBrace = false
is_loose T.CloseBrace = false
is_loose T.Question = false
is_loose T.Colon = false
is_loose T.Semicolon = false
is_loose _ = true

-- tokens whose brackets match, and outside of brackets each `?` with its `:`, and no semicolon
pub data Phrase : List Lexeme → Type 0 where
  no_token : {ts : List Lexeme} → ts ≡ [] → Phrase ts
  a_plain : {t : Lexeme} {ts1 ts : List Lexeme} → is_loose t.terminal ≡ true → Phrase ts1 → ts ≡ t ∷ ts1 → Phrase ts
  a_group : {o : Lexeme} (c : Lexeme) {k : Terminal} {ts1 ts2 ts : List Lexeme} →
      closing o.terminal ≡ Some k → Balanced ts1 → c.terminal ≡ k → Phrase ts2 → ts ≡ o ∷ ts1 ++ c ∷ ts2 → Phrase ts
  a_choice : {q : Lexeme} (c : Lexeme) {ts1 ts2 ts : List Lexeme} →
      q.terminal ≡ T.Question → Phrase ts1 → c.terminal ≡ T.Colon → Phrase ts2 → ts ≡ q ∷ ts1 ++ c ∷ ts2 → Phrase ts
