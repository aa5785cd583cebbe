-- What stands up to a comma.
use Rattle.std.specs.Prelude.{◌≡◌, List, [], ◌∷◌, ◌++◌, Bool, true, false, Some}
use Rattle.px_real_expressions.specs.Lexemes.{Lexeme}
use Rattle.px_real_expressions.specs.Held.{closing, Balanced}
use Rattle.px_real_expressions.specs.declared.terminal.Terminal.{Terminal}
use Rattle.px_real_expressions.specs.declared.terminal.Terminal.TheVariants as T
use Rattle.px_real_statements.specs.Phrases.{is_loose, Phrase}

abbrev pub is_part : Terminal → Bool
is_part T.Comma = false
is_part k = is_loose k

-- a phrase in which no comma stands outside of brackets, nor between a `?` and its `:`
pub data Part : List Lexeme → Type 0 where
  no_token : {ts : List Lexeme} → ts ≡ [] → Part ts
  a_plain : {t : Lexeme} {ts1 ts : List Lexeme} → is_part t.terminal ≡ true → Part ts1 → ts ≡ t ∷ ts1 → Part ts
  a_group : {o : Lexeme} (c : Lexeme) {k : Terminal} {ts1 ts2 ts : List Lexeme} →
      closing o.terminal ≡ Some k → Balanced ts1 → c.terminal ≡ k → Part ts2 → ts ≡ o ∷ ts1 ++ c ∷ ts2 → Part ts
  a_choice : {q : Lexeme} (c : Lexeme) {ts1 ts2 ts : List Lexeme} →
      q.terminal ≡ T.Question → Phrase ts1 → c.terminal ≡ T.Colon → Part ts2 → ts ≡ q ∷ ts1 ++ c ∷ ts2 → Part ts
