-- What is held, token by token.
use Rattle.std.specs.Prelude.{List, [], ◌∷◌, Ok, Err, if◌then◌else◌}
use Rattle.px_real_expressions.specs.declared.terminal.Terminal.{Terminal}
use Rattle.px_real_expressions.specs.Lexemes.{Lexeme, same}
use Rattle.px_real_expressions.specs.Stops.{wrong, Read}
use Rattle.px_real_expressions.specs.Held.{with_one, close_at, held_at}
use Rattle.px_real_symbols.specs.declared.held.Turn.{Turn}
use Rattle.px_real_symbols.specs.declared.held.Turn.TheVariants.{GoesOn, Closes, Mismatches}

-- after a token, where k would close the last bracket that is open, and ks those before it
abbrev pub after_turn : Turn → Lexeme → Terminal → List Terminal → List Lexeme → Read (List Lexeme)
after_turn GoesOn t k ks ts = with_one t (held_at k ks ts)
after_turn Closes t k ks ts = Ok ([], t ∷ ts)
after_turn Mismatches t k ks ts = Err (wrong (t ∷ ts))

-- a token that closes a bracket
abbrev pub closing_at : Terminal → List Terminal → Lexeme → List Lexeme → Read (List Lexeme)
closing_at k ks t ts = if same t.terminal k then close_at ks t ts (λ k1 ks1. held_at k1 ks1 ts) else Err (wrong (t ∷ ts))
