-- Reading what stands up to a semicolon or a colon, or up to a comma, token by token.
use Rattle.std.specs.Prelude.{ℕ, zero, suc, List, [], ◌∷◌, Option, Some, None, Ok, Err, if◌then◌else◌}
use Rattle.px_real_expressions.specs.Lexemes.{Lexeme, same}
use Rattle.px_real_expressions.specs.Stops.{wrong, Read}
use Rattle.px_real_expressions.specs.Held.{closing, closes_something, with_one}
use Rattle.px_real_expressions.specs.Reading.{Reader}
use Rattle.px_real_expressions.specs.declared.terminal.Terminal.{Terminal}
use Rattle.px_real_expressions.specs.declared.terminal.Terminal.TheVariants as T

-- what a token does where a phrase is read
pub data Turn : Type 0 where
  -- so many choices are open after it, and what would close the brackets, the last first
  goes_on : ℕ → List Terminal → Turn
  -- the phrase ends before it
  ends : Turn
  -- it closes another than what was opened last
  mismatches : Turn

abbrev pub ending : ℕ → Turn
ending zero = ends
ending (suc n) = mismatches

abbrev pub colon : ℕ → Turn
colon zero = ends
colon (suc n) = goes_on n []

-- outside of brackets, where n choices are open and commas end nothing
abbrev pub turn_outside : ℕ → Terminal → Turn
turn_outside n T.OpenParenthesis = goes_on n (T.CloseParenthesis ∷ [])
turn_outside n T.OpenBracket = goes_on n (T.CloseBracket ∷ [])
turn_outside n T.OpenBrace = goes_on n (T.CloseBrace ∷ [])
turn_outside n T.Question = goes_on (suc n) []
turn_outside n T.Colon = colon n
turn_outside n T.Semicolon = ending n
turn_outside n T.CloseParenthesis = ending n
turn_outside n T.CloseBracket = ending n
turn_outside n T.CloseBrace = ending n
turn_outside n _ = goes_on n []

-- within brackets, by what would close what it opens; k would close what was opened last
abbrev pub turn_within : Option Terminal → ℕ → Terminal → List Terminal → Terminal → Turn
turn_within (Some c) n k ks t = goes_on n (c ∷ k ∷ ks)
turn_within None n k ks t = if closes_something t then (if same t k then goes_on n ks else mismatches) else goes_on n (k ∷ ks)

-- what a token does outside of brackets, where so many choices are open
abbrev pub Outside : Type 0
Outside = ℕ → Terminal → Turn

-- where a comma ends it, too, but between a `?` and its `:`
abbrev pub turn_bare : Outside
turn_bare zero T.Comma = ends
turn_bare n t = turn_outside n t

abbrev pub turn_by : Outside → ℕ → List Terminal → Terminal → Turn
turn_by outside n [] t = outside n t
turn_by outside n (k ∷ ks) t = turn_within (closing t) n k ks t

abbrev pub turn : ℕ → List Terminal → Terminal → Turn
turn = turn_by turn_outside

abbrev pub after_turn : Turn → Lexeme → List Lexeme → (ℕ → List Terminal → Read (List Lexeme)) → Read (List Lexeme)
after_turn (goes_on n ks) t ts next = with_one t (next n ks)
after_turn ends t ts next = Ok ([], t ∷ ts)
after_turn mismatches t ts next = Err (wrong (t ∷ ts))

-- where the tokens end
abbrev pub phrase_end : ℕ → List Terminal → Read (List Lexeme)
phrase_end zero [] = Ok ([], [])
phrase_end zero (k ∷ ks) = Err (wrong [])
phrase_end (suc n) ks = Err (wrong [])

abbrev pub read_by : Outside → ℕ → List Terminal → List Lexeme → Read (List Lexeme)
read_by outside n ks [] = phrase_end n ks
read_by outside n ks (t ∷ ts) = after_turn (turn_by outside n ks t.terminal) t ts (λ m js. read_by outside m js ts)

abbrev pub phrase_from : ℕ → List Terminal → List Lexeme → Read (List Lexeme)
phrase_from = read_by turn_outside

unfoldable pub phrase_at : Reader (List Lexeme)
phrase_at ts = phrase_from 0 [] ts

-- the same up to a comma
abbrev pub part_from : ℕ → List Terminal → List Lexeme → Read (List Lexeme)
part_from = read_by turn_bare

unfoldable pub part_at : Reader (List Lexeme)
part_at ts = part_from 0 [] ts
