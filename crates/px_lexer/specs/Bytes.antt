-- The bytes of a source, as ASCII has them.
use Rattle.std.specs.Prelude.{ℕ, Bool, false, ◌==◌, nat_le, ◌&&◌, ◌||◌, not, List, [], ◌∷◌}

-- from low to high, both included
abbrev pub within : ℕ → ℕ → ℕ → Bool
within low high b = nat_le low b && nat_le b high

-- a letter or `_`
abbrev pub is_letter : ℕ → Bool
is_letter b = within 97 122 b || (within 65 90 b || b == 95)

abbrev pub is_digit : ℕ → Bool
is_digit b = within 48 57 b

-- space, or one of tab, line feed, vertical tab, form feed and carriage return, which are 9 to 13
abbrev pub is_blank : ℕ → Bool
is_blank b = b == 32 || within 9 13 b

abbrev pub is_line_feed : ℕ → Bool
is_line_feed b = b == 10

-- what may stand in a line
abbrev pub is_line_byte : ℕ → Bool
is_line_byte b = not (is_line_feed b)

-- what a word may have after its first byte
abbrev pub is_word_byte : ℕ → Bool
is_word_byte b = is_letter b || is_digit b

-- what a number may have after its first byte: the bytes of words, and the dot
abbrev pub is_number_byte : ℕ → Bool
is_number_byte b = is_word_byte b || b == 46

-- whether a word would go on here
abbrev pub goes_on : List ℕ → Bool
goes_on [] = false
goes_on (b ∷ bs) = is_word_byte b
