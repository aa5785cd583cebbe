-- What is held as its tokens: it stands between brackets that match.
use Rattle.std.specs.Prelude.{◌≡◌, List, [], ◌∷◌, ◌++◌, Bool, true, false, Option, Some, None, Ok, Err, if◌then◌else◌}
use Rattle.px_real_expressions.specs.Lexemes.{Lexeme, same}
use Rattle.px_real_expressions.specs.Stops.{wrong, Read, ◌>>=◌}
use Rattle.px_real_expressions.specs.declared.terminal.Terminal.{Terminal}
use Rattle.px_real_expressions.specs.declared.terminal.Terminal.TheVariants as T

-- the terminal that closes what this one opens
abbrev pub closing : Terminal → Option Terminal
closing T.OpenParenthesis = Some T.CloseParenthesis
closing T.OpenBracket = Some T.CloseBracket
closing T.OpenBrace = Some T.CloseBrace
closing _ = None

abbrev pub closes_something : Terminal → Bool
closes_something T.CloseParenthesis = true
closes_something T.CloseBracket = true
closes_something T.CloseBrace = true
closes_something _ = false

-- tokens whose brackets match
pub data Balanced : List Lexeme → Type 0 where
  no_token : {ts : List Lexeme} → ts ≡ [] → Balanced ts
  a_plain : {t : Lexeme} {ts1 ts : List Lexeme} → closing t.terminal ≡ None → closes_something t.terminal ≡ false → Balanced ts1 → ts ≡ t ∷ ts1 → Balanced ts
  a_group : {o : Lexeme} (c : Lexeme) {k : Terminal} {ts1 ts2 ts : List Lexeme} →
      closing o.terminal ≡ Some k → Balanced ts1 → c.terminal ≡ k → Balanced ts2 → ts ≡ o ∷ ts1 ++ c ∷ ts2 → Balanced ts

-- one lexeme more at the front of what is held
abbrev pub with_one : Lexeme → Read (List Lexeme) → Read (List Lexeme)
with_one t read = read >>= λ x. Ok (t ∷ x.0, x.1)

-- a lexeme that closes the bracket that was opened last; these terminals would close those before it
abbrev pub close_at : List Terminal → Lexeme → List Lexeme → (Terminal → List Terminal → Read (List Lexeme)) → Read (List Lexeme)
close_at [] t ts next = Ok ([], t ∷ ts)
close_at (k ∷ ks) t ts next = with_one t (next k ks)

-- a lexeme by the terminal that closes what it opens, where k would close the bracket that was opened last
abbrev pub held_by : Option Terminal → Terminal → List Terminal → Lexeme → List Lexeme → (Terminal → List Terminal → Read (List Lexeme)) → Read (List Lexeme)
held_by (Some c) k ks t ts next = with_one t (next c (k ∷ ks))
held_by None k ks t ts next = if closes_something t.terminal then (if same t.terminal k then close_at ks t ts next else Err (wrong (t ∷ ts))) else with_one t (next k ks)

-- what stands before the bracket that closes the first one that is open, and the lexemes from that bracket on; it stops at a bracket that
-- doesn't match, or where the lexemes end
abbrev pub held_at : Terminal → List Terminal → List Lexeme → Read (List Lexeme)
held_at k ks [] = Err (wrong [])
held_at k ks (t ∷ ts) = held_by (closing t.terminal) k ks t ts (λ k1 ks1. held_at k1 ks1 ts)
