-- What a token does where a phrase is read.
use Rattle.std.specs.Prelude.{ℕ, zero, suc, [], ◌∷◌, List, Bool, true, false}
use Rattle.px_real_expressions.specs.Lexemes.{Lexeme}
use Rattle.px_real_expressions.specs.Reading.{Reader}
use Rattle.px_real_statements.specs.PhraseReading as P
use Rattle.px_real_statements.specs.PhraseReading.{goes_on, ends, mismatches, Outside, turn_outside, turn_bare, read_by}
use Rattle.px_real_blocks.specs.declared.phrases.Turn.{Turn}
use Rattle.px_real_blocks.specs.declared.phrases.Turn.TheVariants.{Opens, Asks, Answers, GoesOn, Ends, Mismatches}

-- the `:` of a choice, where so many are open
abbrev pub answered : ℕ → P.Turn
answered zero = mismatches
answered (suc n) = goes_on n []

-- the same as the grammar's reader says it, where so many choices are open
abbrev pub turn_of : ℕ → Turn → P.Turn
turn_of n (Opens c) = goes_on n (c ∷ [])
turn_of n Asks = goes_on (suc n) []
turn_of n Answers = answered n
turn_of n GoesOn = goes_on n []
turn_of n Ends = ends
turn_of n Mismatches = mismatches

-- outside of brackets, where a comma ends what is read or not
abbrev pub outside_of : Bool → Outside
outside_of false = turn_outside
outside_of true = turn_bare

-- what stands up to a semicolon or a colon, or to a comma too
unfoldable pub stretch_at : Bool → Reader (List Lexeme)
stretch_at commas ts = read_by (outside_of commas) 0 [] ts
