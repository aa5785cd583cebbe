-- The bytes of a preprocessed file: those of ASCII as px_lexer has them, and what is a letter besides.
use Rattle.std.specs.Prelude.{ℕ, suc, Bool, true, false, ◌==◌, nat_le, ◌&&◌, ◌||◌, List, [], ◌∷◌, if◌then◌else◌}
use Rattle.px_lexer.specs.Bytes.{is_letter, is_digit, is_line_byte}

-- a letter of names: one of ASCII, `_`, `$` (36), or a byte from 128 on
abbrev pub is_name_letter : ℕ → Bool
is_name_letter b = is_letter b || (b == 36 || nat_le 128 b)

-- what a name may have after its first byte
abbrev pub is_name_byte : ℕ → Bool
is_name_byte b = is_name_letter b || is_digit b

-- whether a name would go on here
abbrev pub name_goes_on : List ℕ → Bool
name_goes_on [] = false
name_goes_on (b ∷ bs) = is_name_byte b

-- whether a digit stands here
abbrev pub begins_digit : List ℕ → Bool
begins_digit [] = false
begins_digit (b ∷ bs) = is_digit b

-- whether the bytes begin with this one
abbrev pub begins_byte : ℕ → List ℕ → Bool
begins_byte c [] = false
begins_byte c (b ∷ bs) = b == c

-- `e`, `E`, `p` or `P`
abbrev pub is_exponent : ℕ → Bool
is_exponent b = b == 101 || (b == 69 || (b == 112 || b == 80))

-- `+` or `-`
abbrev pub is_sign : ℕ → Bool
is_sign b = b == 43 || b == 45

-- whether a number goes on with b after the byte before it: with the bytes of names, with a dot (46), and after the letter of an exponent with a sign
abbrev pub number_goes_on : ℕ → ℕ → Bool
number_goes_on before b = is_name_byte b || (b == 46 || (is_sign b && is_exponent before))

-- whether a line goes on with b after the byte before it: with a line feed only after a backslash (92), which joins two lines
abbrev pub line_goes_on : ℕ → ℕ → Bool
line_goes_on before b = is_line_byte b || before == 92

-- whether it goes on with each of these bytes, where the first stands after the byte `before`
abbrev pub goes_on_all : (ℕ → ℕ → Bool) → ℕ → List ℕ → Bool
goes_on_all go before [] = true
goes_on_all go before (b ∷ bs) = go before b && goes_on_all go b bs

-- with how many of the bytes at the front it goes on
unfoldable pub run_of : (ℕ → ℕ → Bool) → ℕ → List ℕ → ℕ
run_of go before [] = 0
run_of go before (b ∷ bs) = if go before b then suc (run_of go b bs) else 0

-- what may stand on a line, after a byte that is no backslash
abbrev pub stays_on_line : List ℕ → Bool
stays_on_line bs = goes_on_all line_goes_on 0 bs
