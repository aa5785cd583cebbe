-- The longest piece at a place, found from left to right. Private functions state their answers by it; that it is the longest piece is proved.
use Rattle.std.specs.Prelude.{ℕ, suc, ◌+◌, List, [], ◌∷◌, take, drop, length, codes, nat_eq, Option, Some, None, Bool, true, false, ◌==◌, ◌&&◌, nat_le, if◌then◌else◌, not}
use Rattle.std.specs.List.{prefix_len, starts_with}
use Rattle.px_lexer.specs.declared.token.TokenKind.{TokenKind}
use Rattle.px_lexer.specs.declared.token.TokenKind.TheVariants as K
use Rattle.px_lexer.specs.declared.token.Punctuator.{Punctuator}
use Rattle.px_lexer.specs.declared.token.Punctuator.TheVariants.{OpenBrace, CloseBrace, OpenParenthesis, CloseParenthesis, OpenBracket, CloseBracket, Semicolon, Comma, Dot, Arrow, PlusPlus, MinusMinus, Plus, Minus, Star, Slash, Percent, Not, Tilde, Ampersand, Bar, Caret, AndAnd, OrOr, Less, Greater, LessEqual, GreaterEqual, EqualEqual, NotEqual, ShiftLeft, ShiftRight, Equal, PlusEqual, MinusEqual, StarEqual, SlashEqual, PercentEqual, AmpersandEqual, BarEqual, CaretEqual, ShiftLeftEqual, ShiftRightEqual, Question, Colon, Ellipsis}
use Rattle.px_lexer.specs.declared.piece.Piece.{Piece}
use Rattle.px_lexer.specs.declared.piece.Piece.TheVariants as P
use Rattle.px_lexer.specs.declared.piece.Class.{Class}
use Rattle.px_lexer.specs.declared.piece.Class.TheVariants as C
use Rattle.px_lexer.specs.declared.piece.Gap.{Gap}
use Rattle.px_lexer.specs.declared.piece.Gap.TheVariants as G
use Rattle.px_lexer.specs.Bytes.{is_letter, is_digit, is_blank, is_line_byte, is_word_byte, is_number_byte, goes_on}
use Rattle.px_lexer.specs.Spelling.{is_plain_decimal, decimal}

-- what a byte can begin
unfoldable pub class_of : ℕ → Class
class_of b =
    if is_letter b then C.Letter else
    (if is_digit b then C.Digit else
    (if is_blank b then C.Blank else
    (if b == 34 then C.Quote else
    (if b == 39 then C.Apostrophe else
    (if b == 35 then C.Hash else
    (if b == 47 then C.Slash else C.Other))))))

-- one more, where there is a number
abbrev pub one_more : Option ℕ → Option ℕ
one_more (Some n) = Some (suc n)
one_more None = None

-- how many bytes up to the end of a comment, where the byte before is a star or isn't
unfoldable pub comment_end : Bool → List ℕ → Option ℕ
comment_end star [] = None
comment_end star (b ∷ bs) = if star && b == 47 then Some 1 else one_more (comment_end (b == 42) bs)

-- how many bytes up to the closing quote q, where the byte before escapes the first or doesn't
unfoldable pub quote_end : ℕ → Bool → List ℕ → Option ℕ
quote_end q escaped [] = None
quote_end q escaped (b ∷ bs) =
    if b == 10 then None else
    (if escaped then one_more (quote_end q false bs) else
    (if b == q then Some 1 else one_more (quote_end q (b == 92) bs)))

-- whether a word begins here that is `include`
abbrev pub is_include : List ℕ → Bool
is_include bytes = starts_with nat_eq bytes (codes "include") && not (goes_on (drop 7 bytes))

-- whether the next word of a line is `include`
unfoldable pub includes_from : Gap → List ℕ → Bool
includes_from gap [] = false
includes_from G.Outside (b ∷ bs) = if is_blank b then includes_from G.Outside bs else (if b == 47 then includes_from G.Slash bs else is_include (b ∷ bs))
includes_from G.Slash (b ∷ bs) = if b == 42 then includes_from G.Inside bs else false
includes_from G.Inside (b ∷ bs) = if b == 42 then includes_from G.Star bs else includes_from G.Inside bs
includes_from G.Star (b ∷ bs) = if b == 47 then includes_from G.Outside bs else (if b == 42 then includes_from G.Star bs else includes_from G.Inside bs)

-- what stands beside a byte in a table
abbrev pub beside : ℕ → List (ℕ × Punctuator) → Option Punctuator
beside b [] = None
beside b ((k, c) ∷ rows) = if b == k then Some c else beside b rows

-- punctuators of one byte
abbrev pub singles : List (ℕ × Punctuator)
singles =
    (123, OpenBrace) ∷ (125, CloseBrace) ∷ (40, OpenParenthesis) ∷ (41, CloseParenthesis) ∷ (91, OpenBracket) ∷ (93, CloseBracket) ∷
    (59, Semicolon) ∷ (44, Comma) ∷ (46, Dot) ∷ (43, Plus) ∷ (45, Minus) ∷ (42, Star) ∷ (47, Slash) ∷ (37, Percent) ∷
    (33, Not) ∷ (126, Tilde) ∷ (38, Ampersand) ∷ (124, Bar) ∷ (94, Caret) ∷ (60, Less) ∷ (62, Greater) ∷ (61, Equal) ∷
    (63, Question) ∷ (58, Colon) ∷ []

-- punctuators of one byte and `=`
abbrev pub with_equal : List (ℕ × Punctuator)
with_equal =
    (60, LessEqual) ∷ (62, GreaterEqual) ∷ (61, EqualEqual) ∷ (33, NotEqual) ∷ (43, PlusEqual) ∷ (45, MinusEqual) ∷
    (42, StarEqual) ∷ (47, SlashEqual) ∷ (37, PercentEqual) ∷ (38, AmpersandEqual) ∷ (124, BarEqual) ∷ (94, CaretEqual) ∷ []

-- punctuators of one byte twice, other than `==`
abbrev pub doubled : List (ℕ × Punctuator)
doubled = (43, PlusPlus) ∷ (45, MinusMinus) ∷ (38, AndAnd) ∷ (124, OrOr) ∷ (60, ShiftLeft) ∷ (62, ShiftRight) ∷ []

abbrev pub single : ℕ → Option Punctuator
single a = beside a singles

abbrev pub pair : ℕ → ℕ → Option Punctuator
pair a b =
    if b == 61 then beside a with_equal else
    (if a == b then beside a doubled else
    (if a == 45 && b == 62 then Some Arrow else None))

abbrev pub triple : ℕ → ℕ → ℕ → Option Punctuator
triple a b c =
    if a == 46 && (b == 46 && c == 46) then Some Ellipsis else
    (if a == 60 && (b == 60 && c == 61) then Some ShiftLeftEqual else
    (if a == 62 && (b == 62 && c == 61) then Some ShiftRightEqual else None))

-- a punctuator of this length, else what comes next
abbrev pub sized : Option Punctuator → ℕ → Option (Piece × ℕ) → Option (Piece × ℕ)
sized (Some c) n other = Some (P.Token (K.Punctuator c), n)
sized None n other = other

-- the longest punctuator at the front, and its length
unfoldable pub punctuator_at : List ℕ → Option (Piece × ℕ)
punctuator_at [] = None
punctuator_at (a ∷ []) = sized (single a) 1 None
punctuator_at (a ∷ b ∷ []) = sized (pair a b) 2 (sized (single a) 1 None)
punctuator_at (a ∷ b ∷ c ∷ rest) = sized (triple a b c) 3 (sized (pair a b) 2 (sized (single a) 1 None))

-- which piece a number is
unfoldable pub number_of : List ℕ → Piece
number_of f =
    if is_plain_decimal f then (if nat_le (decimal f) 2147483647 then P.Token K.Constant else P.LargeConstant)
    else P.Token K.OtherNumber

-- the number at the front, and its length
abbrev pub number_at : List ℕ → Piece × ℕ
number_at bytes = (number_of (take (prefix_len is_number_byte (drop 1 bytes) + 1) bytes), prefix_len is_number_byte (drop 1 bytes) + 1)

-- which piece a line is that begins with `#`, by what stands after it
abbrev pub line_piece : Bool → Piece
line_piece true = P.Space
line_piece false = P.Token K.Directive

-- the line whose `#` stands before these bytes, and its length
abbrev pub line_at : List ℕ → Piece × ℕ
line_at bs = (line_piece (includes_from G.Outside (take (prefix_len is_line_byte bs) bs)), suc (prefix_len is_line_byte bs))

-- a string or a character, by what stands after its first quote
abbrev pub quoted_as : TokenKind → Option ℕ → Option (Piece × ℕ)
quoted_as kind (Some n) = Some (P.Token kind, suc n)
quoted_as kind None = None

-- a comment in brackets, by what stands after its `/*`
abbrev pub comment_as : Option ℕ → List ℕ → Piece × ℕ
comment_as (Some n) bs = (P.Space, suc (suc n))
comment_as None bs = (P.OpenComment, suc (suc (length bs)))

-- the piece at the front that begins with a slash, and its length
abbrev pub slash_at : List ℕ → Option (Piece × ℕ)
slash_at [] = None
slash_at (a ∷ []) = punctuator_at (a ∷ [])
slash_at (a ∷ b ∷ bs) =
    if b == 47 then Some (P.Space, suc (suc (prefix_len is_line_byte bs))) else
    (if b == 42 then Some (comment_as (comment_end false bs) bs) else punctuator_at (a ∷ b ∷ bs))

-- what begins with a byte of this class, b, where bs stand after it
abbrev pub piece_of : Bool → Class → ℕ → List ℕ → Option (Piece × ℕ)
piece_of fresh C.Letter b bs = Some (P.Token K.Word, suc (prefix_len is_word_byte bs))
piece_of fresh C.Digit b bs = Some (number_at (b ∷ bs))
piece_of fresh C.Blank b bs = Some (P.Space, suc (prefix_len is_blank bs))
piece_of fresh C.Quote b bs = quoted_as K.String (quote_end 34 false bs)
piece_of fresh C.Apostrophe b bs = quoted_as K.Character (quote_end 39 false bs)
piece_of fresh C.Hash b bs = if fresh then Some (line_at bs) else None
piece_of fresh C.Slash b bs = slash_at (b ∷ bs)
piece_of fresh C.Other b bs = punctuator_at (b ∷ bs)

-- the piece at the front, and its length
unfoldable pub piece_at : Bool → List ℕ → Option (Piece × ℕ)
piece_at fresh [] = None
piece_at fresh (b ∷ bs) = piece_of fresh (class_of b) b bs
