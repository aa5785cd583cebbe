-- How the tokens of a preprocessed file are spelled (C11 6.4), and what stands between them.
use Rattle.std.specs.Prelude.{◌≡◌, ◌≢◌, ℕ, ◌==◌, Bool, true, false, IsTrue, ◌&&◌, ◌||◌, not, List, [], ◌∷◌, ◌++◌, length, drop, codes, nat_eq}
use Rattle.std.specs.List.{list_all, starts_with}
use Rattle.px_lexer.specs.Bytes.{is_digit, is_blank}
use Rattle.px_lexer.specs.Spelling.{IsComment, IsOpenComment, IsBlanks, spelling}
use Rattle.px_lexer.specs.declared.token.Punctuator.{Punctuator}
use Rattle.px_lexer.specs.declared.token.Punctuator.TheVariants.{OpenBrace, CloseBrace, OpenBracket, CloseBracket}
use Rattle.px_real_tokens.specs.declared.token.TokenKind.{TokenKind}
use Rattle.px_real_tokens.specs.declared.token.TokenKind.TheVariants as K
use Rattle.px_real_tokens.specs.declared.piece.Piece.{Piece}
use Rattle.px_real_tokens.specs.declared.piece.Piece.TheVariants as P
use Rattle.px_real_tokens.specs.Bytes.{is_name_letter, is_name_byte, name_goes_on, begins_digit, number_goes_on, goes_on_all, stays_on_line}
use Rattle.px_real_tokens.specs.Values.{number_value, character_value}

-- a word: a letter of names, then such letters and digits (6.4.1, 6.4.2)
pub data IsWord : List ℕ → Type 0 where
  word : {b : ℕ} {bs f : List ℕ} → IsTrue (is_name_letter b) → IsTrue (list_all is_name_byte bs) → f ≡ b ∷ bs → IsWord f

-- a preprocessing number: a digit, or a dot and a digit, and all with which it goes on (6.4.8)
pub data IsNumber : List ℕ → Type 0 where
  number : {b : ℕ} {bs f : List ℕ} → IsTrue (is_digit b) → IsTrue (goes_on_all number_goes_on b bs) → f ≡ b ∷ bs → IsNumber f
  dotted : {b : ℕ} {bs f : List ℕ} → IsTrue (is_digit b) → IsTrue (goes_on_all number_goes_on b bs) → f ≡ codes "." ++ b ∷ bs → IsNumber f

-- what may stand between two quotes q: any byte but q, a backslash (92) and a line feed (10); and a backslash with the byte after it, whatever it is: a line feed there is no end of the line (5.1.1.2)
pub data IsQuotable (q : ℕ) : List ℕ → Type 0 where
  nothing : {f : List ℕ} → f ≡ [] → IsQuotable q f
  plain : {b : ℕ} {bs f : List ℕ} → b ≢ q → b ≢ 92 → b ≢ 10 → IsQuotable q bs → f ≡ b ∷ bs → IsQuotable q f
  escaped : {b : ℕ} {bs f : List ℕ} → IsQuotable q bs → f ≡ 92 ∷ b ∷ bs → IsQuotable q f

-- a quote q, what may stand between two of them, and a quote q
pub data IsQuoted (q : ℕ) : List ℕ → Type 0 where
  quoted : {f : List ℕ} (body : List ℕ) → IsQuotable q body → f ≡ q ∷ body ++ q ∷ [] → IsQuoted q f

-- `L`, `U`, `u` or `u8`
abbrev pub is_encoding : List ℕ → Bool
is_encoding [] = false
is_encoding (a ∷ []) = a == 76 || (a == 85 || a == 117)
is_encoding (a ∷ b ∷ []) = a == 117 && b == 56
is_encoding (a ∷ b ∷ c ∷ f) = false

-- a string or a character in quotes q, with a prefix or none (6.4.4.4, 6.4.5)
pub data IsLiteral (q : ℕ) : List ℕ → Type 0 where
  bare : {f : List ℕ} → IsQuoted q f → IsLiteral q f
  prefixed : {g f : List ℕ} (prefix : List ℕ) → is_encoding prefix ≡ true → IsQuoted q g → f ≡ prefix ++ g → IsLiteral q f

-- how a punctuator other than `#` and `##` is written: as in the profile, or by its digraph (6.4.6)
pub data IsPunctuator (c : Punctuator) : List ℕ → Type 0 where
  usual : {f : List ℕ} → f ≡ spelling c → IsPunctuator c f
  for_open_bracket : {f : List ℕ} → c ≡ OpenBracket → f ≡ codes "<:" → IsPunctuator c f
  for_close_bracket : {f : List ℕ} → c ≡ CloseBracket → f ≡ codes ":>" → IsPunctuator c f
  for_open_brace : {f : List ℕ} → c ≡ OpenBrace → f ≡ codes "<%" → IsPunctuator c f
  for_close_brace : {f : List ℕ} → c ≡ CloseBrace → f ≡ codes "%>" → IsPunctuator c f

-- how `#` and `##` are written, which the profile lacks
pub data IsHash : TokenKind → List ℕ → Type 0 where
  hash : {k : TokenKind} {f : List ℕ} → k ≡ K.Hash → f ≡ codes "#" → IsHash k f
  hash_digraph : {k : TokenKind} {f : List ℕ} → k ≡ K.Hash → f ≡ codes "%:" → IsHash k f
  hash_hash : {k : TokenKind} {f : List ℕ} → k ≡ K.HashHash → f ≡ codes "##" → IsHash k f
  hash_hash_digraph : {k : TokenKind} {f : List ℕ} → k ≡ K.HashHash → f ≡ codes "%:%:" → IsHash k f

-- a line that begins with `#`, or its digraph, and has bs after it
pub data IsHashLine (bs : List ℕ) : List ℕ → Type 0 where
  after_hash : {f : List ℕ} → f ≡ codes "#" ++ bs → IsHashLine bs f
  after_digraph : {f : List ℕ} → f ≡ codes "%:" ++ bs → IsHashLine bs f

-- whether this word stands here
abbrev pub begins_with : List ℕ → List ℕ → Bool
begins_with text bytes = starts_with nat_eq bytes text && not (name_goes_on (drop (length text) bytes))

-- whether a number stands here, or one of the words `line`, `pragma` and `ident`
abbrev pub begins_marker : List ℕ → Bool
begins_marker bytes = begins_digit bytes || (begins_with (codes "line") bytes || (begins_with (codes "pragma") bytes || begins_with (codes "ident") bytes))

-- blanks, comments and joined lines, any number of them; a comment that isn't closed on the line is none
pub data IsGap : List ℕ → Type 0 where
  nothing_more : {f : List ℕ} → f ≡ [] → IsGap f
  a_blank : {b : ℕ} {bs f : List ℕ} → IsTrue (is_blank b) → IsGap bs → f ≡ b ∷ bs → IsGap f
  a_joint : {bs f : List ℕ} → IsGap bs → f ≡ 92 ∷ 10 ∷ bs → IsGap f
  a_comment : {bs f : List ℕ} (c : List ℕ) → IsComment c → IsGap bs → f ≡ c ++ bs → IsGap f

-- that stands after the `#` of a line, but for a gap: such a line is one that a preprocessor leaves
pub data IsMarker : List ℕ → Type 0 where
  marker : {f : List ℕ} (gap rest : List ℕ) → IsGap gap → begins_marker rest ≡ true → f ≡ gap ++ rest → IsMarker f

-- `//` and what follows it on the line
pub data IsLineComment : List ℕ → Type 0 where
  line_comment : {bs f : List ℕ} → IsTrue (stays_on_line bs) → f ≡ codes "//" ++ bs → IsLineComment f

-- Which bytes are which piece. `fresh` says that nothing but blanks and comments stands before them on their line: a line that begins with `#` begins there alone, and elsewhere `#` is a token.
-- At a place the longest of them counts. So a word, a number, a line comment and a line that begins with `#` are whole, a prefix belongs to its string, and an open comment goes on to the end of the file: where a `*/` follows, the closed comment is longer.
pub data Spells (fresh : Bool) : Piece → List ℕ → Type 0 where
  a_word : {p : Piece} {f : List ℕ} → p ≡ P.Token K.Word → IsWord f → Spells fresh p f
  a_number : {p : Piece} {f : List ℕ} → p ≡ P.Token (K.Number (number_value f)) → IsNumber f → Spells fresh p f
  -- a string stands in double quotes (34), a character in single ones (39)
  a_string : {p : Piece} {f : List ℕ} → p ≡ P.Token K.String → IsLiteral 34 f → Spells fresh p f
  a_character : {p : Piece} {f : List ℕ} → p ≡ P.Token (K.Character (character_value f)) → IsLiteral 39 f → Spells fresh p f
  a_punctuator : {p : Piece} {f : List ℕ} (c : Punctuator) → p ≡ P.Token (K.Punctuator c) → IsPunctuator c f → Spells fresh p f
  a_hash : {p : Piece} {f : List ℕ} (k : TokenKind) → p ≡ P.Token k → fresh ≡ false → IsHash k f → Spells fresh p f
  -- lines that begin with `#`
  a_marker : {p : Piece} {f : List ℕ} (bs : List ℕ) → p ≡ P.Space → fresh ≡ true → IsTrue (stays_on_line bs) → IsMarker bs → IsHashLine bs f → Spells fresh p f
  a_directive : {p : Piece} {f : List ℕ} (bs : List ℕ) → p ≡ P.Directive → fresh ≡ true → IsTrue (stays_on_line bs) → ¬ IsMarker bs → IsHashLine bs f → Spells fresh p f
  -- what stands between tokens
  some_blanks : {p : Piece} {f : List ℕ} → p ≡ P.Space → IsBlanks f → Spells fresh p f
  a_line_comment : {p : Piece} {f : List ℕ} → p ≡ P.Space → IsLineComment f → Spells fresh p f
  a_closed_comment : {p : Piece} {f : List ℕ} → p ≡ P.Space → IsComment f → Spells fresh p f
  an_open_comment : {p : Piece} {f : List ℕ} → p ≡ P.OpenComment → IsOpenComment f → Spells fresh p f
  -- a backslash before the end of a line
  a_join : {p : Piece} {f : List ℕ} → p ≡ P.Join → f ≡ 92 ∷ 10 ∷ [] → Spells fresh p f
