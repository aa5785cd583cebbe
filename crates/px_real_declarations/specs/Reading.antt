-- Reading declarations from left to right.
use Rattle.std.specs.Prelude.{ℕ, zero, suc, List, [], ◌∷◌, length, Bool, true, false, Option, Some, None, is_some, ◌||◌, ◌&&◌, not, Ok, Err, if◌then◌else◌}
use Rattle.px_expressions.specs.Reading.{or_else}
use Rattle.px_real_expressions.specs.Lexemes.{Lexeme, same, front, front_if}
use Rattle.px_real_expressions.specs.Operators.{is_identifier}
use Rattle.px_real_expressions.specs.Stops.{wrong, deep, Read, ◌>>=◌, expect}
use Rattle.px_real_expressions.specs.Reading.{Reader, closed_at, held_up_to}
use Rattle.px_real_expressions.specs.declared.terminal.Terminal.{Terminal}
use Rattle.px_real_expressions.specs.declared.terminal.Terminal.TheVariants as T
use Rattle.px_real_statements.specs.PhraseReading.{part_at}
use Rattle.px_real_declarations.specs.declared.role.Role.{Role}
use Rattle.px_real_declarations.specs.declared.role.Role.TheVariants as R
use Rattle.px_real_declarations.specs.Roles.{role, same_role, is_qualifier}
use Rattle.px_real_declarations.specs.DeclarationTree.{GroupTree, SpecifierTree, keyword, type_name, group, tagged, says_type, DeclaratorTree, no_name, a_name, inner, pointer, array, function, DeclaredTree, DeclarationTree, declaration, assertion}
use Rattle.px_real_declarations.specs.Grammar.{Types, begins_specifier}

-- ---- what is held

-- the keyword at the front, where it is of this kind
abbrev pub role_front : (Role → Bool) → List Lexeme → Option (Lexeme × List Lexeme)
role_front kind [] = None
role_front kind (t ∷ ts) = if kind (role t) then Some (t, ts) else None

abbrev pub grouped : Lexeme → List Lexeme → GroupTree
grouped t held = record { word = t.text; site = t.site; held = held }

-- what stands in the parentheses behind a keyword
unfoldable pub group_behind : Lexeme → Reader GroupTree
group_behind t ts = expect T.OpenParenthesis ts >>= λ o. closed_at T.CloseParenthesis (held_up_to T.CloseParenthesis) o.1 >>= λ x. Ok (grouped t x.0, x.1)

-- a keyword of this kind with its parentheses, or none
unfoldable pub group_at : (Role → Bool) → Reader (Option GroupTree)
group_at kind ts = or_else (role_front kind ts) (λ t. group_behind t.0 t.1 >>= λ x. Ok (Some x.0, x.1)) (Ok (None, ts))

-- at most n of these, while one is there
unfoldable pub many_at : {A : Type 0} → ℕ → Reader (Option A) → Reader (List A)
many_at zero item ts = Ok ([], ts)
many_at (suc n) item ts = item ts >>= λ x. or_else x.0 (λ a. many_at n item x.1 >>= λ y. Ok (a ∷ y.0, y.1)) (Ok ([], x.1))

unfoldable pub attributes_at : Reader (List GroupTree)
attributes_at ts = many_at (length ts) (group_at (same_role R.Attribute)) ts

-- ---- specifiers

unfoldable pub tag_at : Reader (Option (List ℕ))
tag_at ts = or_else (front_if is_identifier ts) (λ t. Ok (Some t.0.text, t.1)) (Ok (None, ts))

unfoldable pub braces_at : Reader (Option (List Lexeme))
braces_at ts = or_else (front T.OpenBrace ts) (λ b. closed_at T.CloseBrace (held_up_to T.CloseBrace) b.1 >>= λ x. Ok (Some x.0, x.1)) (Ok (None, ts))

-- what follows `struct`, `union` or `enum`
unfoldable pub tagged_at : Lexeme → Reader SpecifierTree
tagged_at t ts = attributes_at ts >>= λ gs. tag_at gs.1 >>= λ tag. braces_at tag.1 >>= λ held.
    if is_some tag.0 || is_some held.0 then Ok (tagged t.text t.site gs.0 tag.0 held.0, held.1) else Err (wrong held.1)

-- `_Atomic` with its parentheses, or alone
unfoldable pub atomic_at : Lexeme → Reader SpecifierTree
atomic_at t ts = or_else (front T.OpenParenthesis ts) (λ o. group_behind t ts >>= λ x. Ok (group x.0, x.1)) (Ok (keyword t.text t.site, ts))

-- a word that is the name of a type, or no specifier
abbrev pub name_at : Types → Bool → List Lexeme → Lexeme → Reader (Option SpecifierTree)
name_at types said all t ts = if not said && (is_identifier t.terminal && types t.text) then Ok (Some (type_name t.text t.site), ts) else Ok (None, all)

-- a specifier by the role of its first token, which is t; `all` has t too
abbrev pub specifier_by : Role → Types → Bool → List Lexeme → Lexeme → Reader (Option SpecifierTree)
specifier_by R.Storage types said all t ts = Ok (Some (keyword t.text t.site), ts)
specifier_by R.Qualifier types said all t ts = Ok (Some (keyword t.text t.site), ts)
specifier_by R.Basic types said all t ts = Ok (Some (keyword t.text t.site), ts)
specifier_by R.Atomic types said all t ts = atomic_at t ts >>= λ x. Ok (Some x.0, x.1)
specifier_by R.Record types said all t ts = tagged_at t ts >>= λ x. Ok (Some x.0, x.1)
specifier_by R.Enumeration types said all t ts = tagged_at t ts >>= λ x. Ok (Some x.0, x.1)
specifier_by R.Typeof types said all t ts = group_behind t ts >>= λ x. Ok (Some (group x.0), x.1)
specifier_by R.Alignment types said all t ts = group_behind t ts >>= λ x. Ok (Some (group x.0), x.1)
specifier_by R.Attribute types said all t ts = group_behind t ts >>= λ x. Ok (Some (group x.0), x.1)
specifier_by _ types said all t ts = name_at types said all t ts

-- a specifier, or none
unfoldable pub specifier_at : Types → Bool → Reader (Option SpecifierTree)
specifier_at types said [] = Ok (None, [])
specifier_at types said (t ∷ ts) = specifier_by (role t) types said (t ∷ ts) t ts

-- at most n specifiers
unfoldable pub specifiers_at : Types → ℕ → Bool → Reader (List SpecifierTree)
specifiers_at types zero said ts = Ok ([], ts)
specifiers_at types (suc n) said ts = specifier_at types said ts >>= λ x. or_else x.0
    (λ s. specifiers_at types n (said || says_type s) x.1 >>= λ y. Ok (s ∷ y.0, y.1))
    (Ok ([], x.1))

-- ---- declarators

-- a qualifier or an attribute behind a star, or none
unfoldable pub qualifier_at : Reader (Option SpecifierTree)
qualifier_at ts = or_else (role_front is_qualifier ts) (λ t. Ok (Some (keyword t.0.text t.0.site), t.1))
    (group_at (same_role R.Attribute) ts >>= λ x. or_else x.0 (λ g. Ok (Some (group g), x.1)) (Ok (None, x.1)))

-- what follows a parenthesis that opens a declarator
unfoldable pub inner_at : Reader DeclaratorTree → Lexeme → Reader DeclaratorTree
inner_at inside o ts = attributes_at ts >>= λ gs. inside gs.1 >>= λ d. expect T.CloseParenthesis d.1 >>= λ c. Ok (inner o.site gs.0 d.0, c.1)

-- where no name is, and no parenthesis
abbrev pub missing : Bool → Reader DeclaratorTree
missing may_miss ts = if may_miss then Ok (no_name, ts) else Err (wrong ts)

-- whether a list of parameters stands behind a parenthesis
abbrev pub opens_parameters : Types → List Lexeme → Bool
opens_parameters types [] = false
opens_parameters types (t ∷ ts) = same t.terminal T.CloseParenthesis || begins_specifier types false t

unfoldable pub core_at : Types → Bool → Reader DeclaratorTree → Reader DeclaratorTree
core_at types may_miss inside ts = or_else (front_if is_identifier ts) (λ t. Ok (a_name t.0.text t.0.site, t.1))
    (or_else (front T.OpenParenthesis ts)
    (λ o. if may_miss && opens_parameters types o.1 then Ok (no_name, ts) else inner_at inside o.0 o.1)
    (missing may_miss ts))

-- at most n brackets and parentheses behind what stands to the left
unfoldable pub behind_at : ℕ → DeclaratorTree → Reader DeclaratorTree
behind_at zero left ts = Ok (left, ts)
behind_at (suc n) left ts = or_else (front T.OpenBracket ts)
    (λ o. closed_at T.CloseBracket (held_up_to T.CloseBracket) o.1 >>= λ x. behind_at n (array o.0.site left x.0) x.1)
    (or_else (front T.OpenParenthesis ts)
    (λ o. closed_at T.CloseParenthesis (held_up_to T.CloseParenthesis) o.1 >>= λ x. behind_at n (function o.0.site left x.0) x.1)
    (Ok (left, ts)))

unfoldable pub direct_at : Types → Bool → Reader DeclaratorTree → Reader DeclaratorTree
direct_at types may_miss inside ts = core_at types may_miss inside ts >>= λ x. behind_at (length x.1) x.0 x.1

-- what follows a star
unfoldable pub pointer_at : Reader DeclaratorTree → Lexeme → Reader DeclaratorTree
pointer_at inside t ts = many_at (length ts) qualifier_at ts >>= λ ss. inside ss.1 >>= λ d. Ok (pointer t.site ss.0 d.0, d.1)

unfoldable pub declarator_of : Types → Bool → Reader DeclaratorTree → Reader DeclaratorTree
declarator_of types may_miss inside ts = or_else (front T.Star ts) (λ t. pointer_at inside t.0 t.1) (direct_at types may_miss inside ts)

-- a declarator, in which so many parentheses and stars stand within one another
unfoldable pub declarator_at : Types → Bool → ℕ → Reader DeclaratorTree
declarator_at types may_miss zero ts = Err (deep ts)
declarator_at types may_miss (suc n) ts = declarator_of types may_miss (declarator_at types may_miss n) ts

-- ---- declarations

unfoldable pub value_at : Terminal → Reader (Option (List Lexeme))
value_at mark ts = or_else (front mark ts) (λ t. part_at t.1 >>= λ x. Ok (Some x.0, x.1)) (Ok (None, ts))

unfoldable pub declared_at : Types → ℕ → Terminal → Reader DeclaredTree
declared_at types n mark ts = attributes_at ts >>= λ gs. declarator_at types false n gs.1 >>= λ d. group_at (same_role R.Assembler) d.1 >>= λ l. attributes_at l.1 >>= λ hs. value_at mark hs.1 >>= λ v.
    Ok (record { before = gs.0; declarator = d.0; label = l.0; after = hs.0; value = v.0 }, v.1)

-- a member, which may be a width alone
unfoldable pub member_at : Types → ℕ → Reader DeclaredTree
member_at types n ts = or_else (front T.Colon ts)
    (λ t. part_at t.1 >>= λ x. Ok (record { before = []; declarator = no_name; label = None; after = []; value = Some x.0 }, x.1))
    (declared_at types n T.Colon ts)

-- at most n times a comma and one more
unfoldable pub more_declared : ℕ → Reader DeclaredTree → Reader (List DeclaredTree)
more_declared zero item ts = Ok ([], ts)
more_declared (suc n) item ts = or_else (front T.Comma ts) (λ c. item c.1 >>= λ x. more_declared n item x.1 >>= λ y. Ok (x.0 ∷ y.0, y.1)) (Ok ([], ts))

-- whether what is listed is over: nothing follows, or a semicolon
abbrev pub is_over : List Lexeme → Bool
is_over [] = true
is_over (t ∷ ts) = same t.terminal T.Semicolon

-- all that is declared, or nothing
abbrev pub listed_at : Reader DeclaredTree → Reader (List DeclaredTree)
listed_at item ts = if is_over ts then Ok ([], ts) else (item ts >>= λ x. more_declared (length x.1) item x.1 >>= λ y. Ok (x.0 ∷ y.0, y.1))

-- specifiers, of which there is one at least
abbrev pub some_specifiers : List SpecifierTree → List Lexeme → Read (List SpecifierTree)
some_specifiers [] ts = Err (wrong ts)
some_specifiers (s ∷ ss) ts = Ok (s ∷ ss, ts)

unfoldable pub declaration_by : Types → Reader DeclaredTree → Reader DeclarationTree
declaration_by types item ts = group_at (same_role R.Assertion) ts >>= λ g. or_else g.0 (λ a. Ok (assertion a, g.1))
    (specifiers_at types (length ts) false ts >>= λ x. some_specifiers x.0 x.1 >>= λ ss. listed_at item ss.1 >>= λ y. Ok (declaration ss.0 y.0, y.1))

-- a declaration without its semicolon, and one of members
abbrev pub declaration_at : Types → ℕ → Reader DeclarationTree
declaration_at types n = declaration_by types (declared_at types n T.Equal)

abbrev pub member_declaration_at : Types → ℕ → Reader DeclarationTree
member_declaration_at types n = declaration_by types (member_at types n)

-- a parameter: specifiers, and a declarator whose name may be missing
unfoldable pub parameter_at : Types → ℕ → Reader DeclarationTree
parameter_at types n ts = specifiers_at types (length ts) false ts >>= λ x. some_specifiers x.0 x.1 >>= λ ss. declarator_at types true n ss.1 >>= λ d. attributes_at d.1 >>= λ gs.
    Ok (declaration ss.0 (record { before = []; declarator = d.0; label = None; after = gs.0; value = None } ∷ []), gs.1)
