-- Which tokens are an item of the shape of a function.
use Rattle.std.specs.Prelude.{◌≡◌, ◌-◌, List, [], ◌∷◌, ◌++◌, length, take, drop, Ok}
use Rattle.px_lexer.specs.declared.token.Token.{Token}
use Rattle.px_cutting.specs.declared.cutting.Span.{Span}
use Rattle.px_cutting.specs.declared.roles.Pair.TheVariants.{Braces}
use Rattle.px_cutting.specs.declared.roles.Role.TheVariants.{Closes}
use Rattle.px_cutting.specs.Cutting.{role, span, Cuts}

-- the tokens are one item
abbrev pub IsOneItem : List Token → Type 0
IsOneItem ts = Cuts 0 ts (Ok (span 0 (length ts) ∷ []))

-- the tokens of an item of a file
abbrev pub tokens_in : List Token → Span → List Token
tokens_in ts s = take (s.after - s.first) (drop s.first ts)

-- the tokens are one item, and a `}` is the last of them: by the cutting rule it closes a `{` that stood
-- outside all brackets directly after a `)`
pub data IsFunctionShaped : List Token → Type 0 where
  function_shaped : {ts : List Token} (before : List Token) (c : Token) →
      IsOneItem ts → role c ≡ Closes Braces → ts ≡ before ++ c ∷ [] → IsFunctionShaped ts
