-- How the tokens of an item end: with a semicolon, or with a body, which begins at the brace that the last token closes.
use Rattle.std.specs.Prelude.{ℕ, zero, suc, ◌+◌, List, [], ◌∷◌, length, reverse, Bool, true, false, Option, Some, None, is_some}
use Rattle.px_real_expressions.specs.Lexemes.{Lexeme, front}
use Rattle.px_real_expressions.specs.declared.terminal.Terminal.{Terminal}
use Rattle.px_real_expressions.specs.declared.terminal.Terminal.TheVariants as T
use Rattle.px_real_items.specs.declared.ends.Nesting.{Nesting}
use Rattle.px_real_items.specs.declared.ends.Nesting.TheVariants as N
use Rattle.px_real_items.specs.declared.ends.End.{End}
use Rattle.px_real_items.specs.declared.ends.End.TheVariants as E

-- what a token does, read backwards, where so many braces are closed behind it and not opened yet: so many are then, or it opens the first
-- that is closed, or none is closed
abbrev pub opened : ℕ → Nesting
opened zero = N.Outside
opened (suc zero) = N.Opens
opened (suc (suc n)) = N.Within (suc n)

abbrev pub passed : ℕ → Nesting
passed zero = N.Outside
passed (suc n) = N.Within (suc n)

abbrev pub taken : Terminal → ℕ → Nesting
taken T.CloseBrace n = N.Within (n + 1)
taken T.OpenBrace n = opened n
taken _ n = passed n

abbrev pub go_on : Nesting → ℕ → (ℕ → Option ℕ) → Option ℕ
go_on (N.Within n) at next = next n
go_on N.Opens at next = Some at
go_on N.Outside at next = None

-- in tokens that are read backwards: how many are left behind the brace that opens the first of them
unfoldable pub opening_at : ℕ → List Lexeme → Option ℕ
opening_at n [] = None
opening_at n (t ∷ ts) = go_on (taken t.terminal n) (length ts) (λ m. opening_at m ts)

-- the number of the token with which the body begins that ends these
abbrev pub body_start : List Lexeme → Option ℕ
body_start ts = opening_at 0 (reverse ts)

abbrev pub end_by : Bool → Option ℕ → End
end_by true start = E.Semicolon
end_by false (Some start) = E.Body start
end_by false None = E.Neither

abbrev pub end_of : List Lexeme → End
end_of ts = end_by (is_some (front T.Semicolon (reverse ts))) (body_start ts)
