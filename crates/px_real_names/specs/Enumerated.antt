-- The enumerators that specifiers declare, part by part.
use Rattle.std.specs.Prelude.{◌≡◌, ℕ, zero, suc, List, [], ◌∷◌, ◌++◌, map, Option, Some, None, Result, Ok, Err}
use Rattle.px_expressions.specs.Reading.{or_else}
use Rattle.px_real_expressions.specs.Lexemes.{Lexeme}
use Rattle.px_real_expressions.specs.Stops.{Read}
use Rattle.px_real_declarations.specs.declared.role.Role.{Role}
use Rattle.px_real_declarations.specs.declared.role.Role.TheVariants as R
use Rattle.px_real_declarations.specs.Roles.{role_of}
use Rattle.px_real_declarations.specs.DeclarationTree.{SpecifierTree, tagged, DeclarationTree, declaration, assertion}
use Rattle.px_real_declarations.specs.Grammar.{Types}
use Rattle.px_real_declarations.specs.HeldReading.{members_at, enumerators_at}
use Rattle.px_real_declarations.specs.Names.{enumerator_name}
use Rattle.px_real_declaring.specs.declared.reading.DeclarationFault.{DeclarationFault}
use Rattle.px_real_declaring.specs.declared.reading.DeclarationFault.TheVariants as D
use Rattle.px_real_declaring.specs.Items.{nesting_limit}

-- what was read, where nothing is left
abbrev pub as_whole : {A : Type 0} → Read A → Option A
as_whole (Ok (a, [])) = Some a
as_whole (Ok (a, t ∷ ts)) = None
as_whole (Err s) = None

-- names of specifiers, or none where what one of them holds isn't read
abbrev pub Words : Type 0
Words = Option (List (List ℕ))

abbrev pub both : Words → Words → Words
both (Some xs) (Some ys) = Some (xs ++ ys)
both (Some xs) None = None
both None ys = None

abbrev pub of_each : (SpecifierTree → Words) → List SpecifierTree → Words
of_each one [] = Some []
of_each one (s ∷ ss) = both (one s) (of_each one ss)

-- those of declarations
abbrev pub of_member : (SpecifierTree → Words) → DeclarationTree → Words
of_member one (declaration ss xs) = of_each one ss
of_member one (assertion g) = Some []

abbrev pub of_members : (SpecifierTree → Words) → List DeclarationTree → Words
of_members one [] = Some []
of_members one (d ∷ ds) = both (of_member one d) (of_members one ds)

-- those of what stands between the braces of an enumeration
abbrev pub of_enumeration : List Lexeme → Words
of_enumeration held = or_else (as_whole (enumerators_at held)) (λ es. Some (map enumerator_name es)) None

-- and of a struct or union, which may hold others by `deeper`
abbrev pub of_record : Types → Option (SpecifierTree → Words) → List Lexeme → Words
of_record types (Some deeper) held = or_else (as_whole (members_at types nesting_limit held)) (of_members deeper) None
of_record types None held = None

abbrev pub of_held : Types → Option (SpecifierTree → Words) → Role → List Lexeme → Words
of_held types deeper R.Enumeration held = of_enumeration held
of_held types deeper R.Record held = of_record types deeper held
of_held types deeper _ held = None

abbrev pub of_specifier : Types → Option (SpecifierTree → Words) → SpecifierTree → Words
of_specifier types deeper (tagged word s gs tag (Some held)) = of_held types deeper (role_of word) held
of_specifier types deeper _ = Some []

-- what a struct may hold, where they may stand within one another so deep
unfoldable pub deeper_by : Types → ℕ → Option (SpecifierTree → Words)
deeper_by types zero = None
deeper_by types (suc n) = Some (of_specifier types (deeper_by types n))

abbrev pub enumerated_by : Types → ℕ → SpecifierTree → Words
enumerated_by types n = of_specifier types (deeper_by types n)

-- how deep
abbrev pub struct_limit : ℕ
struct_limit = 200

abbrev pub enumerated : Types → List SpecifierTree → Words
enumerated types ss = of_each (enumerated_by types struct_limit) ss

-- these are added to names; a fault but for memory says that there are none to add
abbrev pub Adds : List (List ℕ) → List (List ℕ) → Result Unit DeclarationFault → Words → Type 0
Adds old new (Ok u) words = both (Some old) words ≡ Some new
Adds old new (Err D.NoMemory) words = Unit {0}
Adds old new (Err (D.NotADeclaration at)) words = words ≡ None
Adds old new (Err (D.Deep at)) words = words ≡ None

-- these were found
abbrev pub Found : {X : Type 0} → (X → List (List ℕ)) → Result X DeclarationFault → Words → Type 0
Found view (Ok x) words = words ≡ Some (view x)
Found view (Err D.NoMemory) words = Unit {0}
Found view (Err (D.NotADeclaration at)) words = words ≡ None
Found view (Err (D.Deep at)) words = words ≡ None
