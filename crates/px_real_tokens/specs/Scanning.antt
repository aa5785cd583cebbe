-- The longest piece at a place, found from left to right. Private functions state their answers by it; that it is the longest piece is proved.
use Rattle.std.specs.Prelude.{ℕ, suc, ◌+◌, List, [], ◌∷◌, take, drop, length, Option, Some, None, unwrap_or, Bool, true, false, ◌==◌, ◌&&◌, if◌then◌else◌}
use Rattle.std.specs.List.{prefix_len}
use Rattle.px_lexer.specs.Bytes.{is_digit, is_blank}
use Rattle.px_lexer.specs.Scanning.{one_more, comment_end, single, pair, triple}
use Rattle.px_lexer.specs.declared.token.Punctuator.{Punctuator}
use Rattle.px_lexer.specs.declared.token.Punctuator.TheVariants.{OpenBrace, CloseBrace, OpenBracket, CloseBracket}
use Rattle.px_real_tokens.specs.declared.token.TokenKind.{TokenKind}
use Rattle.px_real_tokens.specs.declared.token.TokenKind.TheVariants as K
use Rattle.px_real_tokens.specs.declared.piece.Piece.{Piece}
use Rattle.px_real_tokens.specs.declared.piece.Piece.TheVariants as P
use Rattle.px_real_tokens.specs.declared.piece.Class.{Class}
use Rattle.px_real_tokens.specs.declared.piece.Class.TheVariants as C
use Rattle.px_real_tokens.specs.declared.piece.Gap.{Gap}
use Rattle.px_real_tokens.specs.declared.piece.Gap.TheVariants as G
use Rattle.px_real_tokens.specs.Bytes.{is_name_letter, is_name_byte, begins_digit, begins_byte, number_goes_on, line_goes_on, run_of}
use Rattle.px_real_tokens.specs.Values.{number_value, character_value}
use Rattle.px_real_tokens.specs.Spelling.{is_encoding, begins_marker}

-- what a byte can begin
unfoldable pub class_of : ℕ → Class
class_of b =
    if is_name_letter b then C.Letter else
    (if is_digit b then C.Digit else
    (if is_blank b then C.Blank else
    (if b == 34 then C.Quote else
    (if b == 39 then C.Quote else
    (if b == 35 then C.Hash else
    (if b == 37 then C.Percent else
    (if b == 46 then C.Dot else
    (if b == 47 then C.Slash else
    (if b == 92 then C.Backslash else C.Other)))))))))

-- how many bytes up to the closing quote q, where the byte before escapes the first or doesn't
unfoldable pub quote_end : ℕ → Bool → List ℕ → Option ℕ
quote_end q escaped [] = None
quote_end q escaped (b ∷ bs) =
    if escaped then one_more (quote_end q false bs) else
    (if b == 10 then None else
    (if b == q then Some 1 else one_more (quote_end q (b == 92) bs)))

-- how many bytes a line has at the front
abbrev pub line_run : List ℕ → ℕ
line_run bs = run_of line_goes_on 0 bs

-- the number at the front that begins with b, and its length
abbrev pub number_at : ℕ → List ℕ → Piece × ℕ
number_at b bs = (P.Token (K.Number (number_value (take (suc (run_of number_goes_on b bs)) (b ∷ bs)))), suc (run_of number_goes_on b bs))

-- what a string or a character is, by its quote and its text
abbrev pub literal_kind : ℕ → List ℕ → TokenKind
literal_kind q text = if q == 34 then K.String else K.Character (character_value text)

-- a string or a character with so many bytes before its quote q, by what stands after it
abbrev pub literal_as : ℕ → ℕ → List ℕ → Option ℕ → Option (Piece × ℕ)
literal_as skip q bytes (Some n) = Some (P.Token (literal_kind q (take (skip + suc n) bytes)), skip + suc n)
literal_as skip q bytes None = None

-- the same, by what stands after those bytes
abbrev pub literal_after : ℕ → List ℕ → List ℕ → Option (Piece × ℕ)
literal_after skip bytes [] = None
literal_after skip bytes (q ∷ bs) = if q == 34 then literal_as skip 34 bytes (quote_end 34 false bs) else (if q == 39 then literal_as skip 39 bytes (quote_end 39 false bs) else None)

-- the string or the character at the front whose quote stands after so many bytes, and its length
abbrev pub literal_at : ℕ → List ℕ → Option (Piece × ℕ)
literal_at skip bytes = literal_after skip bytes (drop skip bytes)

-- a word of this length at the front, or the string or the character of which it is the prefix
abbrev pub word_of_length : ℕ → List ℕ → Piece × ℕ
word_of_length n bytes = if is_encoding (take n bytes) then unwrap_or (literal_at n bytes) (P.Token K.Word, n) else (P.Token K.Word, n)

-- what begins with a letter
unfoldable pub word_at : List ℕ → Piece × ℕ
word_at bytes = word_of_length (suc (prefix_len is_name_byte (drop 1 bytes))) bytes

-- whether a preprocessor leaves a line, by what stands after its `#`, or after a part of that
unfoldable pub marks_from : Gap → List ℕ → Bool
marks_from gap [] = false
marks_from G.Outside (b ∷ bs) =
    if is_blank b then marks_from G.Outside bs else
    (if b == 47 then marks_from G.Slash bs else
    (if b == 92 then marks_from G.Backslash bs else begins_marker (b ∷ bs)))
marks_from G.Slash (b ∷ bs) = if b == 42 then marks_from G.Inside bs else false
marks_from G.Backslash (b ∷ bs) = if b == 10 then marks_from G.Outside bs else false
marks_from G.Inside (b ∷ bs) = if b == 42 then marks_from G.Star bs else marks_from G.Inside bs
marks_from G.Star (b ∷ bs) = if b == 47 then marks_from G.Outside bs else (if b == 42 then marks_from G.Star bs else marks_from G.Inside bs)

-- which piece a line is that begins with `#`, by what stands after it
abbrev pub line_piece : Bool → Piece
line_piece true = P.Space
line_piece false = P.Directive

-- the line whose `#`, of so many bytes, stands before these bytes, and its length
abbrev pub line_at : ℕ → List ℕ → Piece × ℕ
line_at skip bs = (line_piece (marks_from G.Outside (take (line_run bs) bs)), skip + line_run bs)

-- what begins with `#`
abbrev pub hash_at : Bool → List ℕ → Piece × ℕ
hash_at true bs = line_at 1 bs
hash_at false bs = if begins_byte 35 bs then (P.Token K.HashHash, 2) else (P.Token K.Hash, 1)

-- what begins with `%:`
abbrev pub digraph_at : Bool → List ℕ → Piece × ℕ
digraph_at true bs = line_at 2 bs
digraph_at false bs = if begins_byte 37 bs && begins_byte 58 (drop 1 bs) then (P.Token K.HashHash, 4) else (P.Token K.Hash, 2)

-- a punctuator of two bytes, digraphs among them
abbrev pub any_pair : ℕ → ℕ → Option Punctuator
any_pair a b =
    if a == 60 && b == 58 then Some OpenBracket else
    (if a == 58 && b == 62 then Some CloseBracket else
    (if a == 60 && b == 37 then Some OpenBrace else
    (if a == 37 && b == 62 then Some CloseBrace else pair a b)))

-- a punctuator of this length, else what comes next
abbrev pub sized : Option Punctuator → ℕ → Option (Piece × ℕ) → Option (Piece × ℕ)
sized (Some c) n other = Some (P.Token (K.Punctuator c), n)
sized None n other = other

-- the longest punctuator at the front, and its length
unfoldable pub punctuator_at : List ℕ → Option (Piece × ℕ)
punctuator_at [] = None
punctuator_at (a ∷ []) = sized (single a) 1 None
punctuator_at (a ∷ b ∷ []) = sized (any_pair a b) 2 (sized (single a) 1 None)
punctuator_at (a ∷ b ∷ c ∷ rest) = sized (triple a b c) 3 (sized (any_pair a b) 2 (sized (single a) 1 None))

-- a comment in brackets, by what stands after its `/*`
abbrev pub comment_as : Option ℕ → List ℕ → Piece × ℕ
comment_as (Some n) bs = (P.Space, suc (suc n))
comment_as None bs = (P.OpenComment, suc (suc (length bs)))

-- what begins with a slash
abbrev pub slash_at : List ℕ → Option (Piece × ℕ)
slash_at [] = None
slash_at (a ∷ []) = punctuator_at (a ∷ [])
slash_at (a ∷ b ∷ bs) =
    if b == 47 then Some (P.Space, suc (suc (line_run bs))) else
    (if b == 42 then Some (comment_as (comment_end false bs) bs) else punctuator_at (a ∷ b ∷ bs))

-- what begins with a byte of this class, b, where bs stand after it
abbrev pub piece_of : Bool → Class → ℕ → List ℕ → Option (Piece × ℕ)
piece_of fresh C.Letter b bs = Some (word_at (b ∷ bs))
piece_of fresh C.Digit b bs = Some (number_at b bs)
piece_of fresh C.Blank b bs = Some (P.Space, suc (prefix_len is_blank bs))
piece_of fresh C.Quote b bs = literal_at 0 (b ∷ bs)
piece_of fresh C.Hash b bs = Some (hash_at fresh bs)
piece_of fresh C.Percent b bs = if begins_byte 58 bs then Some (digraph_at fresh (drop 1 bs)) else punctuator_at (b ∷ bs)
piece_of fresh C.Dot b bs = if begins_digit bs then Some (number_at b bs) else punctuator_at (b ∷ bs)
piece_of fresh C.Slash b bs = slash_at (b ∷ bs)
piece_of fresh C.Backslash b bs = if begins_byte 10 bs then Some (P.Join, 2) else None
piece_of fresh C.Other b bs = punctuator_at (b ∷ bs)

-- the piece at the front, and its length
unfoldable pub piece_at : Bool → List ℕ → Option (Piece × ℕ)
piece_at fresh [] = None
piece_at fresh (b ∷ bs) = piece_of fresh (class_of b) b bs
