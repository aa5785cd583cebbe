-- How tokens are spelled (C17 6.4), and what stands between them.
use Rattle.std.specs.Prelude.{◌≡◌, ◌≢◌, ℕ, ◌+◌, ◌-◌, ◌*◌, ◌<◌, ◌≤◌, ◌==◌, Bool, true, false, IsTrue, not, ◌&&◌, ◌||◌, List, [], ◌∷◌, ◌++◌, length, fold, codes}
use Rattle.std.specs.List.{list_all}
use Rattle.px_lexer.specs.Bytes.{is_letter, is_digit, is_blank, is_line_byte, is_word_byte, is_number_byte, goes_on}
use Rattle.px_lexer.specs.declared.token.TokenKind.TheVariants as K
use Rattle.px_lexer.specs.declared.token.Punctuator.{Punctuator}
use Rattle.px_lexer.specs.declared.token.Punctuator.TheVariants.{OpenBrace, CloseBrace, OpenParenthesis, CloseParenthesis, OpenBracket, CloseBracket, Semicolon, Comma, Dot, Arrow, PlusPlus, MinusMinus, Plus, Minus, Star, Slash, Percent, Not, Tilde, Ampersand, Bar, Caret, AndAnd, OrOr, Less, Greater, LessEqual, GreaterEqual, EqualEqual, NotEqual, ShiftLeft, ShiftRight, Equal, PlusEqual, MinusEqual, StarEqual, SlashEqual, PercentEqual, AmpersandEqual, BarEqual, CaretEqual, ShiftLeftEqual, ShiftRightEqual, Question, Colon, Ellipsis}
use Rattle.px_lexer.specs.declared.piece.Piece.{Piece}
use Rattle.px_lexer.specs.declared.piece.Piece.TheVariants as P

-- a word: a letter or `_`, then letters, digits and `_`
pub data IsWord : List ℕ → Type 0 where
  word : {b : ℕ} {bs f : List ℕ} → IsTrue (is_letter b) → IsTrue (list_all is_word_byte bs) → f ≡ b ∷ bs → IsWord f

-- a number: a digit, then letters, digits, `_` and `.`
pub data IsNumber : List ℕ → Type 0 where
  number : {b : ℕ} {bs f : List ℕ} → IsTrue (is_digit b) → IsTrue (list_all is_number_byte bs) → f ≡ b ∷ bs → IsNumber f

-- no 0 stands in front of others
abbrev pub has_plain_front : List ℕ → Bool
has_plain_front [] = false
has_plain_front (b ∷ bs) = not (b == 48) || length bs == 0

-- digits alone, with no 0 in front of others
abbrev pub is_plain_decimal : List ℕ → Bool
is_plain_decimal f = has_plain_front f && list_all is_digit f

-- the number that digits write
abbrev pub decimal : List ℕ → ℕ
decimal f = fold (λ n b. n * 10 + (b - 48)) 0 f

-- what may stand between two quotes q: any byte but q, a backslash (92) and a line feed (10); and a backslash with any byte but a line feed after it
pub data IsQuotable (q : ℕ) : List ℕ → Type 0 where
  nothing : {f : List ℕ} → f ≡ [] → IsQuotable q f
  plain : {b : ℕ} {bs f : List ℕ} → b ≢ q → b ≢ 92 → b ≢ 10 → IsQuotable q bs → f ≡ b ∷ bs → IsQuotable q f
  escaped : {b : ℕ} {bs f : List ℕ} → b ≢ 10 → IsQuotable q bs → f ≡ 92 ∷ b ∷ bs → IsQuotable q f

-- a quote q, what may stand between two of them, and a quote q
pub data IsQuoted (q : ℕ) : List ℕ → Type 0 where
  quoted : {f : List ℕ} (body : List ℕ) → IsQuotable q body → f ≡ q ∷ body ++ q ∷ [] → IsQuoted q f

-- `*/` stands nowhere in the bytes
abbrev pub HasNoEnd : List ℕ → Type 0
HasNoEnd body = (a c : List ℕ) → body ≢ a ++ (codes "*/" ++ c)

-- `/*`, what stands up to the first `*/`, and this `*/`
pub data IsComment : List ℕ → Type 0 where
  comment : {f : List ℕ} (body : List ℕ) → HasNoEnd body → f ≡ codes "/*" ++ body ++ codes "*/" → IsComment f

-- `/*` and what follows it, no `*/` among it
pub data IsOpenComment : List ℕ → Type 0 where
  open_comment : {body f : List ℕ} → HasNoEnd body → f ≡ codes "/*" ++ body → IsOpenComment f

-- `//` and what follows it on the line
pub data IsLineComment : List ℕ → Type 0 where
  line_comment : {bs f : List ℕ} → IsTrue (list_all is_line_byte bs) → f ≡ codes "//" ++ bs → IsLineComment f

-- blanks, at least one
pub data IsBlanks : List ℕ → Type 0 where
  blanks : {b : ℕ} {bs f : List ℕ} → IsTrue (is_blank b) → IsTrue (list_all is_blank bs) → f ≡ b ∷ bs → IsBlanks f

-- blanks and comments, any number of them; a comment that isn't closed on the line is none
pub data IsGap : List ℕ → Type 0 where
  nothing_more : {f : List ℕ} → f ≡ [] → IsGap f
  a_blank : {b : ℕ} {bs f : List ℕ} → IsTrue (is_blank b) → IsGap bs → f ≡ b ∷ bs → IsGap f
  a_comment : {bs f : List ℕ} (c : List ℕ) → IsComment c → IsGap bs → f ≡ c ++ bs → IsGap f

-- what stands after the `#` of a line begins, but for a gap, with the word `include`
pub data Includes : List ℕ → Type 0 where
  includes : {f : List ℕ} (gap rest : List ℕ) → IsGap gap → goes_on rest ≡ false → f ≡ gap ++ codes "include" ++ rest → Includes f

-- how a punctuator is written
abbrev pub spelling : Punctuator → List ℕ
spelling OpenBrace = codes "{"
spelling CloseBrace = codes "}"
spelling OpenParenthesis = codes "("
spelling CloseParenthesis = codes ")"
spelling OpenBracket = codes "["
spelling CloseBracket = codes "]"
spelling Semicolon = codes ";"
spelling Comma = codes ","
spelling Dot = codes "."
spelling Arrow = codes "->"
spelling PlusPlus = codes "++"
spelling MinusMinus = codes "--"
spelling Plus = codes "+"
spelling Minus = codes "-"
spelling Star = codes "*"
spelling Slash = codes "/"
spelling Percent = codes "%"
spelling Not = codes "!"
spelling Tilde = codes "~"
spelling Ampersand = codes "&"
spelling Bar = codes "|"
spelling Caret = codes "^"
spelling AndAnd = codes "&&"
spelling OrOr = codes "||"
spelling Less = codes "<"
spelling Greater = codes ">"
spelling LessEqual = codes "<="
spelling GreaterEqual = codes ">="
spelling EqualEqual = codes "=="
spelling NotEqual = codes "!="
spelling ShiftLeft = codes "<<"
spelling ShiftRight = codes ">>"
spelling Equal = codes "="
spelling PlusEqual = codes "+="
spelling MinusEqual = codes "-="
spelling StarEqual = codes "*="
spelling SlashEqual = codes "/="
spelling PercentEqual = codes "%="
spelling AmpersandEqual = codes "&="
spelling BarEqual = codes "|="
spelling CaretEqual = codes "^="
spelling ShiftLeftEqual = codes "<<="
spelling ShiftRightEqual = codes ">>="
spelling Question = codes "?"
spelling Colon = codes ":"
spelling Ellipsis = codes "..."

-- Which bytes are which piece. `fresh` says that nothing but blanks and comments stands before them on their line: a line of its own begins there alone.
-- At a place the longest of them counts. So a word, a number, a line comment and a line of its own are whole, and an open comment goes on to the end of the source: where a `*/` follows, the closed comment is longer.
pub data Spells (fresh : Bool) : Piece → List ℕ → Type 0 where
  a_word : {p : Piece} {f : List ℕ} → p ≡ P.Token K.Word → IsWord f → Spells fresh p f
  -- numbers: a plain decimal one is a constant or too large, each other is an other number
  a_constant : {p : Piece} {f : List ℕ} → p ≡ P.Token K.Constant → IsNumber f → is_plain_decimal f ≡ true → decimal f ≤ 2147483647 → Spells fresh p f
  a_large_constant : {p : Piece} {f : List ℕ} → p ≡ P.LargeConstant → IsNumber f → is_plain_decimal f ≡ true → 2147483647 < decimal f → Spells fresh p f
  another_number : {p : Piece} {f : List ℕ} → p ≡ P.Token K.OtherNumber → IsNumber f → is_plain_decimal f ≡ false → Spells fresh p f
  -- a string stands in double quotes (34), a character in single ones (39)
  a_string : {p : Piece} {f : List ℕ} → p ≡ P.Token K.String → IsQuoted 34 f → Spells fresh p f
  a_character : {p : Piece} {f : List ℕ} → p ≡ P.Token K.Character → IsQuoted 39 f → Spells fresh p f
  a_punctuator : {p : Piece} {f : List ℕ} (c : Punctuator) → p ≡ P.Token (K.Punctuator c) → f ≡ spelling c → Spells fresh p f
  -- lines of their own: a `#` and what follows it on the line
  a_directive : {p : Piece} {bs f : List ℕ} → p ≡ P.Token K.Directive → fresh ≡ true → IsTrue (list_all is_line_byte bs) → ¬ Includes bs → f ≡ codes "#" ++ bs → Spells fresh p f
  an_include : {p : Piece} {bs f : List ℕ} → p ≡ P.Space → fresh ≡ true → IsTrue (list_all is_line_byte bs) → Includes bs → f ≡ codes "#" ++ bs → Spells fresh p f
  -- what stands between tokens
  some_blanks : {p : Piece} {f : List ℕ} → p ≡ P.Space → IsBlanks f → Spells fresh p f
  a_line_comment : {p : Piece} {f : List ℕ} → p ≡ P.Space → IsLineComment f → Spells fresh p f
  a_closed_comment : {p : Piece} {f : List ℕ} → p ≡ P.Space → IsComment f → Spells fresh p f
  an_open_comment : {p : Piece} {f : List ℕ} → p ≡ P.OpenComment → IsOpenComment f → Spells fresh p f
