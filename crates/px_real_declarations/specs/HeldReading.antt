-- Reading what declarations hold, up to the end: members, enumerators and parameters; and the heads of functions.
use Rattle.std.specs.Prelude.{ℕ, zero, suc, List, [], ◌∷◌, ◌++◌, length, Bool, true, false, ◌&&◌, not, Option, Some, None, Result, Ok, Err, if◌then◌else◌}
use Rattle.px_expressions.specs.Reading.{or_else}
use Rattle.px_real_expressions.specs.Lexemes.{Lexeme, same, front, front_if}
use Rattle.px_real_expressions.specs.Operators.{is_identifier}
use Rattle.px_real_expressions.specs.Stops.{Stop, wrong, Read, ◌>>=◌, expect}
use Rattle.px_real_expressions.specs.Reading.{Reader}
use Rattle.px_real_expressions.specs.declared.terminal.Terminal.TheVariants as T
use Rattle.px_real_declarations.specs.declared.trailing.Trailing.{Trailing}
use Rattle.px_real_declarations.specs.declared.trailing.Trailing.TheVariants as E
use Rattle.px_real_declarations.specs.declared.role.Role.TheVariants as R
use Rattle.px_real_declarations.specs.Roles.{role, same_role}
use Rattle.px_real_declarations.specs.DeclarationTree.{DeclarationTree, EnumeratorTree, ParametersTree, parameters, identifiers, HeadTree}
use Rattle.px_real_declarations.specs.Grammar.{Types}
use Rattle.px_real_declarations.specs.Reading.{attributes_at, specifiers_at, some_specifiers, declarator_at, value_at, declaration_at, member_declaration_at, parameter_at}

-- a declaration with the semicolon behind it
abbrev pub ended_at : Reader DeclarationTree → Reader (Option DeclarationTree)
ended_at item ts = item ts >>= λ d. expect T.Semicolon d.1 >>= λ e. Ok (Some d.0, e.1)

-- or a semicolon alone, where that may stand
unfoldable pub line_at : Bool → Reader DeclarationTree → Reader (Option DeclarationTree)
line_at true item ts = or_else (front T.Semicolon ts) (λ e. Ok (None, e.1)) (ended_at item ts)
line_at false item ts = ended_at item ts

abbrev pub as_list : {A : Type 0} → Option A → List A
as_list (Some x) = x ∷ []
as_list None = []

-- at most n of these
unfoldable pub lines_from : ℕ → Bool → Reader DeclarationTree → Reader (List DeclarationTree)
lines_from zero alone item ts = Ok ([], ts)
lines_from (suc n) alone item [] = Ok ([], [])
lines_from (suc n) alone item (t ∷ ts) = line_at alone item (t ∷ ts) >>= λ d. lines_from n alone item d.1 >>= λ y. Ok (as_list d.0 ++ y.0, y.1)

abbrev pub lines_at : Bool → Reader DeclarationTree → Reader (List DeclarationTree)
lines_at alone item ts = lines_from (length ts) alone item ts

abbrev pub members_at : Types → ℕ → Reader (List DeclarationTree)
members_at types n = lines_at true (member_declaration_at types n)

-- a function's head
unfoldable pub head_at : Types → ℕ → Reader HeadTree
head_at types n ts = specifiers_at types (length ts) false ts >>= λ x. some_specifiers x.0 x.1 >>= λ ss. declarator_at types false n ss.1 >>= λ d. lines_at false (declaration_at types n) d.1 >>= λ y.
    Ok (record { specifiers = ss.0; declarator = d.0; declarations = y.0 }, y.1)

-- ---- what stands between commas

-- what follows one of several: nothing more, `...`, or another
pub data Next : Type 0 where
  last : List Lexeme → Next
  dots : List Lexeme → Next
  another : List Lexeme → Next

abbrev pub behind_comma : Trailing → List Lexeme → Next
behind_comma E.Comma [] = last []
behind_comma E.Dots (t ∷ ts) = if same_role R.Ellipsis (role t) then dots ts else another (t ∷ ts)
behind_comma _ ts = another ts

abbrev pub next_of : Trailing → List Lexeme → Result Next Stop
next_of e [] = Ok (last [])
next_of e (t ∷ ts) = if same t.terminal T.Comma then Ok (behind_comma e ts) else Err (wrong (t ∷ ts))

abbrev pub on_next : {A : Type 0} → A → Next → Reader (List A × Bool) → Read (List A × Bool)
on_next x (last ts) more = Ok ((x ∷ [], false), ts)
on_next x (dots ts) more = Ok ((x ∷ [], true), ts)
on_next x (another ts) more = more ts >>= λ y. Ok ((x ∷ y.0.0, y.0.1), y.1)

-- one and at most n - 1 more, with commas between, and whether `...` follows them
unfoldable pub separated_from : {A : Type 0} → Trailing → ℕ → Reader A → Reader (List A × Bool)
separated_from e zero item ts = Err (wrong ts)
separated_from e (suc n) item ts = item ts >>= λ x. next_of e x.1 >>= λ y. on_next x.0 y (separated_from e n item)

-- ---- enumerators

unfoldable pub enumerator_at : Reader EnumeratorTree
enumerator_at ts = or_else (front_if is_identifier ts)
    (λ t. attributes_at t.1 >>= λ gs. value_at T.Equal gs.1 >>= λ v. Ok (record { name = t.0.text; site = t.0.site; attributes = gs.0; value = v.0 }, v.1))
    (Err (wrong ts))

-- a comma may stand behind the last
abbrev pub enumerators_at : Reader (List EnumeratorTree)
enumerators_at [] = Ok ([], [])
enumerators_at (t ∷ ts) = separated_from E.Comma (length (t ∷ ts)) enumerator_at (t ∷ ts) >>= λ x. Ok (x.0.0, x.1)

-- ---- parameters

-- a name that is no type's
abbrev pub is_other_name : Types → Lexeme → Bool
is_other_name types t = is_identifier t.terminal && not (types t.text)

unfoldable pub other_at : Types → Reader (List ℕ)
other_at types [] = Err (wrong [])
other_at types (t ∷ ts) = if is_other_name types t then Ok (t.text, ts) else Err (wrong (t ∷ ts))

-- names alone, where the first is no type's
abbrev pub parameters_at : Types → ℕ → Reader ParametersTree
parameters_at types n [] = Ok (identifiers [], [])
parameters_at types n (t ∷ ts) = if is_other_name types t
    then (separated_from E.Nothing (length (t ∷ ts)) (other_at types) (t ∷ ts) >>= λ x. Ok (identifiers x.0.0, x.1))
    else (separated_from E.Dots (length (t ∷ ts)) (parameter_at types n) (t ∷ ts) >>= λ x. Ok (parameters x.0.0 x.0.1, x.1))
