-- The names of which an address is taken, by a look over tokens (C11 6.5.3.2).
use Rattle.std.specs.Prelude.{ℕ, List, [], ◌∷◌, Bool, true, false, ◌&&◌, ◌||◌, not, Option, Some, None, if◌then◌else◌}
use Rattle.px_expressions.specs.Reading.{or_else}
use Rattle.px_expressions.specs.Terminals.{is_in}
use Rattle.px_real_expressions.specs.declared.terminal.Terminal.{Terminal}
use Rattle.px_real_expressions.specs.declared.terminal.Terminal.TheVariants as T
use Rattle.px_real_expressions.specs.Lexemes.{Lexeme, same}

-- what can only end an operand: behind it, `&` stands between two of them
abbrev pub ends_operand : Terminal → Bool
ends_operand T.Name = true
ends_operand T.Constant = true
ends_operand T.String = true
ends_operand T.CloseBracket = true
ends_operand T.PlusPlus = true
ends_operand T.MinusMinus = true
ends_operand _ = false

-- what may stand between `&` and the name
abbrev pub is_passed : Terminal → Bool
is_passed T.OpenParenthesis = true
is_passed T.Extension = true
is_passed _ = false

-- the address is that of what a pointer points to, and none of the pointer
abbrev pub leads_on : List Lexeme → Bool
leads_on [] = false
leads_on (t ∷ ts) = same t.terminal T.Arrow || same t.terminal T.OpenBracket

-- the name that `&` stands before, if its address is taken
abbrev pub taken : List Lexeme → Option (List ℕ)
taken [] = None
taken (t ∷ ts) = if is_passed t.terminal then taken ts else (if same t.terminal T.Name && not (leads_on ts) then Some t.text else None)

abbrev pub with_name : Option (List ℕ) → List (List ℕ) → List (List ℕ)
with_name o names = or_else o (λ name. name ∷ names) names

-- in order, behind the end of an operand or not
abbrev pub addressed_from : Bool → List Lexeme → List (List ℕ)
addressed_from ended [] = []
addressed_from ended (t ∷ ts) =
    if same t.terminal T.Ampersand && not ended then with_name (taken ts) (addressed_from (ends_operand t.terminal) ts) else addressed_from (ends_operand t.terminal) ts

abbrev pub addressed : List Lexeme → List (List ℕ)
addressed ts = addressed_from false ts

-- whether an address of what has this name may be taken among these tokens
abbrev pub is_addressed : List Lexeme → List ℕ → Bool
is_addressed ts name = is_in (addressed ts) name
