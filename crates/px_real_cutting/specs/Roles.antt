-- What a token is where a file is cut into items.
use Rattle.std.specs.Prelude.{ℕ, ◌-◌, Bool, true, false, List, [], ◌∷◌, take, drop, Option, Some, None, codes, if◌then◌else◌}
use Rattle.std.specs.Str.{bytes_eq}
use Rattle.px_lexer.specs.declared.token.Punctuator.TheVariants as P
use Rattle.px_real_tokens.specs.declared.token.Token.{Token}
use Rattle.px_real_tokens.specs.declared.token.TokenKind.{TokenKind}
use Rattle.px_real_tokens.specs.declared.token.TokenKind.TheVariants as K
use Rattle.px_real_cutting.specs.declared.roles.Pair.{Pair}
use Rattle.px_real_cutting.specs.declared.roles.Pair.TheVariants.{Parentheses, Brackets, Braces}
use Rattle.px_real_cutting.specs.declared.roles.Role.{Role}
use Rattle.px_real_cutting.specs.declared.roles.Role.TheVariants as R
use Rattle.px_real_cutting.specs.declared.roles.Mark.{Mark}
use Rattle.px_real_cutting.specs.declared.roles.Before.{Before}
use Rattle.px_real_cutting.specs.declared.roles.Before.TheVariants as B
use Rattle.px_real_cutting.specs.declared.roles.Ending.{Ending}
use Rattle.px_real_cutting.specs.declared.roles.Ending.TheVariants as E

-- the bytes of a token
abbrev pub text_of : List ℕ → Token → List ℕ
text_of source t = take (t.end - t.start) (drop t.start source)

-- the words of C and of GNU C that take parentheses of their own: what stands directly before parameters is none of them
abbrev pub own_words : List (List ℕ)
own_words =
    codes "__attribute__" ∷ codes "__attribute" ∷ codes "__asm__" ∷ codes "__asm" ∷ codes "asm" ∷ codes "__typeof__" ∷ codes "__typeof" ∷ codes "typeof" ∷
    codes "__extension__" ∷ codes "_Alignas" ∷ codes "_Alignof" ∷ codes "__alignof__" ∷ codes "__alignof" ∷ codes "_Atomic" ∷ codes "_Static_assert" ∷ codes "sizeof" ∷ []

abbrev pub is_in : List (List ℕ) → List ℕ → Bool
is_in [] word = false
is_in (w ∷ ws) word = if bytes_eq word w then true else is_in ws word

abbrev pub takes_parentheses : List ℕ → Bool
takes_parentheses = is_in own_words

abbrev pub word_role : Bool → Role
word_role true = R.Other
word_role false = R.Name

-- what a token of this text and kind is
abbrev pub role_of : List ℕ → TokenKind → Role
role_of word K.Word = word_role (takes_parentheses word)
role_of word (K.Punctuator P.OpenParenthesis) = R.Opens Parentheses
role_of word (K.Punctuator P.CloseParenthesis) = R.Closes Parentheses
role_of word (K.Punctuator P.OpenBracket) = R.Opens Brackets
role_of word (K.Punctuator P.CloseBracket) = R.Closes Brackets
role_of word (K.Punctuator P.OpenBrace) = R.Opens Braces
role_of word (K.Punctuator P.CloseBrace) = R.Closes Braces
role_of word (K.Punctuator P.Semicolon) = R.Semicolon
role_of word _ = R.Other

-- a token of a source as cutting sees it
abbrev pub as_mark : List ℕ → Token → Mark
as_mark source t = record { role = role_of (text_of source t) t.kind; site = t.site }

-- no bracket
abbrev pub is_plain : Role → Bool
is_plain (R.Opens b) = false
is_plain (R.Closes b) = false
is_plain _ = true

-- neither a bracket nor a semicolon
abbrev pub goes_on : Role → Bool
goes_on R.Name = true
goes_on R.Other = true
goes_on _ = false

-- how a piece ends at the bracket that closes this pair, by what stands before the one that opens it; if it does
abbrev pub opens : Pair → Before → Option Ending
opens Braces B.Nothing = Some E.Body
opens Braces B.Parameters = Some E.Definition
opens Braces B.MoreParameters = Some E.Definition
opens _ _ = None

-- what a bracket that closes this pair is to what stands after it, by what stands before the one that opens it
abbrev pub before_group : Pair → Before → Before
before_group Parentheses B.Name = B.Parameters
before_group Parentheses B.Parameters = B.MoreParameters
before_group Parentheses B.MoreParameters = B.MoreParameters
before_group _ _ = B.Other

-- the same of a token that is no bracket
abbrev pub before_token : Role → Before
before_token R.Name = B.Name
before_token _ = B.Other

abbrev pub is_parameters : Before → Bool
is_parameters B.Parameters = true
is_parameters _ = false

abbrev pub is_name : Role → Bool
is_name R.Name = true
is_name _ = false

-- how a piece ends at a semicolon, by whether a name stands in it directly after parameters
abbrev pub before_semicolon : Bool → Ending
before_semicolon true = E.Head
before_semicolon false = E.Declaration
