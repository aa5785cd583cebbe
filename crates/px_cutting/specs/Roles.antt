-- What a token is where a file is cut into items.
use Rattle.std.specs.Prelude.{Bool, true, false, List, [], ◌∷◌}
use Rattle.px_lexer.specs.declared.token.TokenKind.{TokenKind}
use Rattle.px_lexer.specs.declared.token.TokenKind.TheVariants as K
use Rattle.px_lexer.specs.declared.token.Punctuator.TheVariants as P
use Rattle.px_cutting.specs.declared.roles.Pair.{Pair}
use Rattle.px_cutting.specs.declared.roles.Pair.TheVariants.{Parentheses, Brackets, Braces}
use Rattle.px_cutting.specs.declared.roles.Role.{Role}
use Rattle.px_cutting.specs.declared.roles.Role.TheVariants.{Opens, Closes, Semicolon, Directive, Other}

abbrev pub role_of : TokenKind → Role
role_of (K.Punctuator P.OpenParenthesis) = Opens Parentheses
role_of (K.Punctuator P.CloseParenthesis) = Closes Parentheses
role_of (K.Punctuator P.OpenBracket) = Opens Brackets
role_of (K.Punctuator P.CloseBracket) = Closes Brackets
role_of (K.Punctuator P.OpenBrace) = Opens Braces
role_of (K.Punctuator P.CloseBrace) = Closes Braces
role_of (K.Punctuator P.Semicolon) = Semicolon
role_of K.Directive = Directive
role_of _ = Other

-- no bracket
abbrev pub is_plain : Role → Bool
is_plain (Opens b) = false
is_plain (Closes b) = false
is_plain _ = true

-- neither a bracket nor a semicolon
abbrev pub goes_on : Role → Bool
goes_on Directive = true
goes_on Other = true
goes_on _ = false

abbrev pub is_parentheses : Pair → Bool
is_parentheses Parentheses = true
is_parentheses _ = false

-- whether brackets that open here, after a `)` or not, hold the body of a function
abbrev pub opens_body : Pair → Bool → Bool
opens_body Braces true = true
opens_body _ _ = false

-- whether a list of brackets is empty
abbrev pub none_open : {A : Type 0} → List A → Bool
none_open [] = true
none_open (o ∷ os) = false

abbrev pub closes_brace : Role → Bool
closes_brace (Closes Braces) = true
closes_brace _ = false

abbrev pub is_directive : Role → Bool
is_directive Directive = true
is_directive _ = false
