-- The name of an item of the shape of a function.
use Rattle.std.specs.Prelude.{◌≡◌, ℕ, List, [], ◌∷◌, ◌++◌, Bool, true, false, Option, Some, None, if◌then◌else◌}
use Rattle.px_lexer.specs.declared.token.Token.{Token}
use Rattle.px_lexer.specs.declared.token.TokenKind.{TokenKind}
use Rattle.px_lexer.specs.declared.token.TokenKind.TheVariants as K
use Rattle.px_lexer.specs.declared.token.Punctuator.TheVariants as P
use Rattle.px_expressions.specs.Lexemes.{token_text}
use Rattle.px_cutting.specs.Shape.{IsFunctionShaped}

abbrev pub is_parenthesis : TokenKind → Bool
is_parenthesis (K.Punctuator P.OpenParenthesis) = true
is_parenthesis _ = false

-- none of the tokens is a `(`
pub data NoParenthesis : List Token → Type 0 where
  no_token : {ts : List Token} → ts ≡ [] → NoParenthesis ts
  another : {t : Token} {ts1 ts : List Token} → is_parenthesis t.kind ≡ false → NoParenthesis ts1 → ts ≡ t ∷ ts1 → NoParenthesis ts

-- the name is the word directly before the first `(` of an item of the shape of a function; it may be a keyword
pub data IsFunctionName (source : List ℕ) : List Token → List ℕ → Type 0 where
  function_name : {ts : List Token} {name : List ℕ} (before : List Token) (t o : Token) (behind : List Token) →
      IsFunctionShaped ts → NoParenthesis before → t.kind ≡ K.Word → o.kind ≡ K.Punctuator P.OpenParenthesis →
      ts ≡ before ++ t ∷ o ∷ behind → name ≡ token_text source t → IsFunctionName source ts name

-- the token before the first `(`, where `last` stands before all of them
abbrev pub before_first : Option Token → List Token → Option Token
before_first last [] = None
before_first last (t ∷ ts) = if is_parenthesis t.kind then last else before_first (Some t) ts
