-- Which tokens are outside the grammar, and the word and the place of an item without a reading.
use Rattle.std.specs.Prelude.{◌≡◌, ℕ, List, [], ◌∷◌, ◌++◌, Option, Some, None, Bool, true, false, codes}
use Rattle.px_base.specs.declared.trace.Site.{Site}
use Rattle.px_lexer.specs.declared.token.Token.{Token}
use Rattle.px_lexer.specs.declared.token.TokenKind.{TokenKind}
use Rattle.px_lexer.specs.declared.token.TokenKind.TheVariants as K
use Rattle.px_expressions.specs.Lexemes.{token_text}
use Rattle.px_expressions.specs.Terminals.{is_outside, is_outside_punctuator}

abbrev pub some_if : Bool → List ℕ → Option (List ℕ)
some_if true word = Some word
some_if false word = None

-- the word for a token that is outside the grammar: its text, or what it is
abbrev pub outside_kind : List ℕ → TokenKind → Option (List ℕ)
outside_kind text K.Word = some_if (is_outside text) text
outside_kind text (K.Punctuator p) = some_if (is_outside_punctuator p) text
outside_kind text K.Constant = None
outside_kind text K.OtherNumber = Some (codes "constant")
outside_kind text K.String = Some (codes "string")
outside_kind text K.Character = Some (codes "character")
outside_kind text K.Directive = Some (codes "directive")

abbrev pub outside_word : List ℕ → Token → Option (List ℕ)
outside_word source t = outside_kind (token_text source t) t.kind

-- none of the tokens is outside the grammar
pub data NoneOutside (source : List ℕ) : List Token → Type 0 where
  none_left : {ts : List Token} → ts ≡ [] → NoneOutside source ts
  none_here : {t : Token} {ts1 ts : List Token} → outside_word source t ≡ None → NoneOutside source ts1 → ts ≡ t ∷ ts1 → NoneOutside source ts

-- the word and the place of an item without a reading: the first of its tokens that is outside the grammar,
-- and where there is none, `form` at its first token
pub data IsRefusal (source : List ℕ) : List Token → List ℕ → Site → Type 0 where
  first_outside : {ts : List Token} {word : List ℕ} {place : Site} (before : List Token) (t : Token) (behind : List Token) →
      NoneOutside source before → outside_word source t ≡ Some word → ts ≡ before ++ t ∷ behind → place ≡ t.site → IsRefusal source ts word place
  form : {t : Token} {ts1 ts : List Token} {word : List ℕ} {place : Site} → NoneOutside source ts → ts ≡ t ∷ ts1 → word ≡ codes "form" → place ≡ t.site → IsRefusal source ts word place
