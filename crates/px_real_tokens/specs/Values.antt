-- The values of numbers and characters that are constants of the profile; all others are outside values.
use Rattle.std.specs.Prelude.{ℕ, ◌+◌, ◌-◌, ◌*◌, ◌==◌, nat_lt, nat_le, Bool, not, ◌&&◌, ◌||◌, List, [], ◌∷◌, Option, Some, None, fold, if◌then◌else◌}
use Rattle.std.specs.List.{list_all}
use Rattle.px_lexer.specs.Bytes.{within, is_digit}

-- the value of a digit, `a` to `f` and `A` to `F` among them; 16 for every other byte
abbrev pub digit_value : ℕ → ℕ
digit_value b = if is_digit b then b - 48 else (if within 97 102 b then b - 87 else (if within 65 70 b then b - 55 else 16))

-- digits of a base, as many as there are
abbrev pub are_digits : ℕ → List ℕ → Bool
are_digits base f = list_all (λ b. nat_lt (digit_value b) base) f

-- the number that digits of a base write
abbrev pub written_in : ℕ → List ℕ → ℕ
written_in base f = fold (λ n b. n * base + digit_value b) 0 f

-- that number, where the bytes are such digits and it is at most 2147483647
abbrev pub small_in : ℕ → List ℕ → Option ℕ
small_in base f = if are_digits base f && nat_le (written_in base f) 2147483647 then Some (written_in base f) else None

-- after `0x` or `0X`: hexadecimal, with a digit at least
abbrev pub hexadecimal : List ℕ → Option ℕ
hexadecimal [] = None
hexadecimal (b ∷ bs) = small_in 16 (b ∷ bs)

-- after a `0` at the front (48): nothing, hexadecimal after an `x` (120) or `X` (88), else octal
abbrev pub after_zero : List ℕ → Option ℕ
after_zero [] = Some 0
after_zero (b ∷ bs) = if b == 120 || b == 88 then hexadecimal bs else small_in 8 (b ∷ bs)

-- the value of an integer constant without a suffix (C11 6.4.4.1), where it is at most 2147483647
abbrev pub number_value : List ℕ → Option ℕ
number_value [] = None
number_value (b ∷ bs) = if b == 48 then after_zero bs else small_in 10 (b ∷ bs)

-- the value of a plain character: any from the space (32) to `~` (126) but `'` (39) and the backslash (92)
abbrev pub plain_value : ℕ → Option ℕ
plain_value b = if within 32 126 b && (not (b == 39) && not (b == 92)) then Some b else None

-- the value of the escape that stands after a backslash: `0`, `a`, `b`, `f`, `n`, `r`, `t`, `v`, or one of `'`, `"`, `?` and the backslash (C11 6.4.4.4, 5.2.2)
abbrev pub escape_value : ℕ → Option ℕ
escape_value b =
    if b == 48 then Some 0 else
    (if b == 97 then Some 7 else
    (if b == 98 then Some 8 else
    (if b == 102 then Some 12 else
    (if b == 110 then Some 10 else
    (if b == 114 then Some 13 else
    (if b == 116 then Some 9 else
    (if b == 118 then Some 11 else
    (if b == 39 || (b == 34 || (b == 63 || b == 92)) then Some b else None))))))))

-- the value of a character constant without a prefix that is one plain character, one simple escape or `\0`; the bytes have its quotes
abbrev pub character_value : List ℕ → Option ℕ
character_value [] = None
character_value (a ∷ []) = None
character_value (a ∷ b ∷ []) = None
character_value (a ∷ b ∷ c ∷ []) = if a == 39 then plain_value b else None
character_value (a ∷ b ∷ c ∷ d ∷ []) = if a == 39 && b == 92 then escape_value c else None
character_value (a ∷ b ∷ c ∷ d ∷ e ∷ f) = None
