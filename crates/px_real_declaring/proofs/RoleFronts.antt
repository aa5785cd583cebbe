-- What stands at the front, by its role.
use Rattle.std.proofs.Common.{◌≡◌, Bool, true, false, ◌||◌, ◌&&◌, List, [], ◌∷◌, Some, None, refl, sym, ap, ◌∙◌}
use Rattle.px_real_expressions.specs.declared.terminal.Terminal.TheVariants as T
use Rattle.px_real_expressions.specs.Lexemes.{Lexeme, same}
use Rattle.px_real_expressions.specs.Operators.{is_identifier}
use Rattle.px_real_symbols.specs.Symbols.{first}
use Rattle.px_real_declarations.specs.declared.role.Role.{Role}
use Rattle.px_real_declarations.specs.Roles.{role, begins_keyword}
use Rattle.px_real_declarations.specs.Grammar.{Types}
use Rattle.px_real_declarations.specs.Reading.{role_front, opens_parameters}

pub role_front_of : (kind : Role → Bool) (ts : List Lexeme) (x : Lexeme × List Lexeme) → Some x ≡ first ts → kind (role x.0) ≡ true → Some x ≡ role_front kind ts
role_front_of kind [] x h s = absurd cc
role_front_of kind (t ∷ ts) x h s =
    let p : x ≡ (t, ts) = cc in
    let e : kind (role t) ≡ true = sym (ap (λ (z : Lexeme × List Lexeme). kind (role z.0)) p) ∙ s in
    rw e h

pub no_role_front : (kind : Role → Bool) (ts : List Lexeme) (x : Lexeme × List Lexeme) → Some x ≡ first ts → kind (role x.0) ≡ false → None ≡ role_front kind ts
no_role_front kind [] x h s = absurd cc
no_role_front kind (t ∷ ts) x h s =
    let p : x ≡ (t, ts) = cc in
    let e : kind (role t) ≡ false = sym (ap (λ (z : Lexeme × List Lexeme). kind (role z.0)) p) ∙ s in
    rw e refl

three : (a b c : Bool) → ((a || b) || c) ≡ (a || (b || c))
three true b c = refl
three false b c = refl

-- whether a list of parameters stands there, by its first token
pub opens_first : (types : Types) (ts : List Lexeme) (x : Lexeme × List Lexeme) (a b c : Bool) → Some x ≡ first ts → a ≡ same x.0.terminal T.CloseParenthesis → b ≡ begins_keyword (role x.0) → c ≡ (is_identifier x.0.terminal && types x.0.text) →
    ((a || b) || c) ≡ opens_parameters types ts
opens_first types [] x a b c h e f g = absurd cc
opens_first types (t ∷ ts) x a b c h e f g =
    let p : x ≡ (t, ts) = cc in
    rw (e, f, g) (three (same x.0.terminal T.CloseParenthesis) (begins_keyword (role x.0)) (is_identifier x.0.terminal && types x.0.text) ∙ ap (λ (z : Lexeme × List Lexeme). opens_parameters types (z.0 ∷ z.1)) p)

pub none_opens : (types : Types) (ts : List Lexeme) → None ≡ first ts → false ≡ opens_parameters types ts
none_opens types [] h = refl
none_opens types (t ∷ ts) h = absurd cc
