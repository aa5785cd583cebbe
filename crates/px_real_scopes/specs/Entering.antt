-- What specifiers bring into scope: tags, the structs, unions and enumerations that they define, and enumerators (C11 6.7.2.1 to 6.7.2.3).
use Rattle.std.specs.Prelude.{ℕ, zero, suc, ◌+◌, List, [], ◌∷◌, ◌++◌, map, length, Bool, true, false, ◌&&◌, not, Option, Some, None, is_some, nat_lt, if◌then◌else◌}
use Rattle.px_base.specs.declared.trace.Site.{Site}
use Rattle.px_expressions.specs.Reading.{or_else}
use Rattle.px_real_expressions.specs.Lexemes.{Lexeme}
use Rattle.px_real_declarations.specs.declared.role.Role.{Role}
use Rattle.px_real_declarations.specs.declared.role.Role.TheVariants as R
use Rattle.px_real_declarations.specs.Roles.{role_of}
use Rattle.px_real_declarations.specs.DeclarationTree.{SpecifierTree, tagged, DeclaredTree, DeclarationTree, declaration, assertion, EnumeratorTree}
use Rattle.px_real_declarations.specs.HeldReading.{members_at, enumerators_at}
use Rattle.px_real_declarations.specs.Names.{declared_name}
use Rattle.px_real_declaring.specs.Items.{nesting_limit}
use Rattle.px_real_types.specs.Shapes.{in_profile}
use Rattle.px_real_types.specs.Words.{is_struct_word}
use Rattle.px_real_names.specs.Enumerated.{as_whole, struct_limit}
use Rattle.px_real_types.specs.declared.known.Known.{Known}
use Rattle.px_real_types.specs.declared.known.Member.{Member}
use Rattle.px_real_types.specs.declared.known.Member.TheVariants as N
use Rattle.px_real_types.specs.Types.{known}
use Rattle.px_real_scopes.specs.Scopes.{an_enumerator, TagTree, a_record, an_enumeration, BindingTree, of_name, of_tag, of_place, NamedTree, Scopes}
use Rattle.px_real_scopes.specs.Lookups.{tag_of, number_in, placed, own_block, is_seen, members_of, is_defined, seen, are_types}
use Rattle.px_real_scopes.specs.Knowing.{type_specifier, specified_known, declared_known}

-- one after the other, as far as each goes on
abbrev pub in_turn : {A S : Type 0} → (S → A → Option S) → S → List A → Option S
in_turn next st [] = Some st
in_turn next st (x ∷ xs) = or_else (next st x) (λ st1. in_turn next st1 xs) None

-- ---- enumerators

-- a constant, alone
abbrev pub constant_in : List Lexeme → Option ℕ
constant_in (t ∷ []) = t.value
constant_in _ = None

-- the value that is written, or else this one (6.7.2.2)
abbrev pub enumerator_value : Option ℕ → Option (List Lexeme) → Option ℕ
enumerator_value next None = next
enumerator_value next (Some held) = constant_in held

-- the next one, where an int has it
abbrev pub counted_on : Option ℕ → Option ℕ
counted_on (Some n) = if nat_lt n 2147483647 then Some (n + 1) else None
counted_on None = None

abbrev pub enumerator_binding : List ℕ → Option ℕ → BindingTree
enumerator_binding name value = of_name name (an_enumerator value)

abbrev pub with_enumerators : Option ℕ → List EnumeratorTree → List BindingTree → List BindingTree
with_enumerators next [] bs = bs
with_enumerators next (e ∷ es) bs = let value = enumerator_value next e.value in with_enumerators (counted_on value) es (enumerator_binding e.name value ∷ bs)

abbrev pub with_tag : Option (List ℕ) → TagTree → List BindingTree → List BindingTree
with_tag (Some tag) t bs = of_tag tag t ∷ bs
with_tag None t bs = bs

abbrev pub with_enumerated : Option (List ℕ) → List EnumeratorTree → Scopes → Scopes
with_enumerated tag es st = record st { bindings = with_enumerators (Some 0) es (with_tag tag an_enumeration st.bindings) }

-- an enumeration is declared where its enumerators stand; the first counts as 0
abbrev pub with_enumeration : Option (List ℕ) → Option (List Lexeme) → Scopes → Option Scopes
with_enumeration tag None st = Some st
with_enumeration tag (Some held) st = or_else (as_whole (enumerators_at held)) (λ es. Some (with_enumerated tag es st)) None

-- ---- which struct or union is meant (6.7.2.3)

-- one that isn't defined yet
abbrev pub if_open : Scopes → Option ℕ → Option ℕ
if_open st o = or_else o (λ n. if is_defined st n then None else Some n) None

-- what stands between braces defines the one of the innermost block, if that is declared and isn't defined yet; and a declaration of nothing but
-- the tag means the one of the innermost block
abbrev pub tagged_number : Scopes → Bool → Bool → List ℕ → Option ℕ
tagged_number st alone true tag = if_open st (number_in (tag_of (own_block st.bindings) tag))
tagged_number st true false tag = number_in (tag_of (own_block st.bindings) tag)
tagged_number st false false tag = number_in (tag_of st.bindings tag)

abbrev pub declared_number : Scopes → Bool → Bool → Option (List ℕ) → Option ℕ
declared_number st alone defines (Some tag) = tagged_number st alone defines tag
declared_number st alone defines None = None

abbrev pub record_binding : Option (List ℕ) → Site → ℕ → BindingTree
record_binding (Some tag) site n = of_tag tag (a_record n)
record_binding None site n = of_place site n

-- a new one
abbrev pub new_record : Bool → Option (List ℕ) → Site → Scopes → Scopes
new_record is_struct tag site st = record st { bindings = record_binding tag site (length st.records) ∷ st.bindings; records = st.records ++ is_struct ∷ [] }

-- its number, and what is in scope then
abbrev pub meant_record : Bool → Bool → Bool → Option (List ℕ) → Site → Scopes → ℕ × Scopes
meant_record is_struct alone defines tag site st = or_else (declared_number st alone defines tag) (λ n. (n, st)) (length st.records, new_record is_struct tag site st)

-- ---- members

-- how many cells there are with this member
abbrev pub counted : ℕ → Member → ℕ
counted n (N.Cell number kind) = n + 1
counted n (N.Other k) = n

abbrev pub cells_among : List NamedTree → ℕ
cells_among [] = 0
cells_among (m ∷ ms) = counted (cells_among ms) m.member

-- the cell with this number, where it may be one and has a type of the profile
abbrev pub member_made : Bool → ℕ → Known → Member
member_made may_be next k = if may_be then or_else (in_profile (seen k)) (λ t. N.Cell next t) (N.Other k) else N.Other k

-- one member more, where it has a name; a bit-field is no cell
abbrev pub with_member : Bool → Known → List NamedTree → DeclaredTree → List NamedTree
with_member cells k ms x =
    or_else (declared_name x.declarator) (λ name. ms ++ record { name = name; member = member_made (cells && not (is_some x.value)) (cells_among ms) (declared_known x k) } ∷ []) ms

abbrev pub with_each : Bool → Known → List NamedTree → List DeclaredTree → List NamedTree
with_each cells k ms [] = ms
with_each cells k ms (x ∷ xs) = with_each cells k (with_member cells k ms x) xs

abbrev pub no_cell : Member → Member
no_cell (N.Cell number kind) = N.Other (known kind)
no_cell (N.Other k) = N.Other k

abbrev pub inherited : NamedTree → NamedTree
inherited m = record { name = m.name; member = no_cell m.member }

-- the number of a struct or union without a tag
abbrev pub nameless_number : List BindingTree → SpecifierTree → Option ℕ
nameless_number bs (tagged word site gs None held) = placed bs site
nameless_number bs _ = None

abbrev pub members_without_a_name : Scopes → List SpecifierTree → Option (List NamedTree)
members_without_a_name st ss = or_else (type_specifier ss) (λ s. or_else (nameless_number st.bindings s) (members_of st) None) None

-- of a member without a name that is one, its members are members, and no cells (6.7.2.1, 13)
abbrev pub nameless_members : Scopes → List SpecifierTree → List NamedTree
nameless_members st ss = or_else (members_without_a_name st ss) (λ ms. map inherited ms) []

abbrev pub with_members : Bool → Scopes → List SpecifierTree → List NamedTree → List DeclaredTree → List NamedTree
with_members cells st ss ms [] = ms ++ nameless_members st ss
with_members cells st ss ms (x ∷ xs) = with_each cells (specified_known st ss) ms (x ∷ xs)

-- ---- specifiers

-- what is in scope behind a specifier
abbrev pub Entering : Type 0
Entering = Scopes → SpecifierTree → Option Scopes

-- one declaration of members: what is in scope behind it, and the members so far
abbrev pub with_line : Entering → Bool → Scopes × List NamedTree → DeclarationTree → Option (Scopes × List NamedTree)
with_line deeper cells x (declaration ss xs) = or_else (in_turn deeper x.0 ss) (λ st. Some (st, with_members cells st ss x.1 xs)) None
with_line deeper cells x (assertion g) = Some x

abbrev pub with_definition : ℕ → Scopes × List NamedTree → Scopes
with_definition n x = record x.0 { definitions = record { number = n; members = x.1 } ∷ x.0.definitions }

-- the one with this number with these members, which may hold others by `deeper`
abbrev pub defined_by : Entering → ℕ → Scopes → List DeclarationTree → Option Scopes
defined_by deeper n st ds = or_else (in_turn (with_line deeper (is_seen st n)) (st, []) ds) (λ x. Some (with_definition n x)) None

-- with what stands between its braces
abbrev pub defined_as : Option Entering → List Lexeme → ℕ × Scopes → Option Scopes
defined_as (Some deeper) held (n, st) = or_else (as_whole (members_at (are_types st.bindings) nesting_limit held)) (defined_by deeper n st) None
defined_as None held (n, st) = None

abbrev pub defined_if : Option Entering → Option (List Lexeme) → ℕ × Scopes → Option Scopes
defined_if deeper (Some held) x = defined_as deeper held x
defined_if deeper None x = Some x.1

abbrev pub entered_record : Option Entering → Bool → Bool → Option (List ℕ) → Site → Option (List Lexeme) → Scopes → Option Scopes
entered_record deeper is_struct alone tag site held st = defined_if deeper held (meant_record is_struct alone (is_some held) tag site st)

abbrev pub with_tagged : Option Entering → Bool → Role → List ℕ → Site → Option (List ℕ) → Option (List Lexeme) → Scopes → Option Scopes
with_tagged deeper alone R.Enumeration word site tag held st = with_enumeration tag held st
with_tagged deeper alone R.Record word site tag held st = entered_record deeper (is_struct_word word) alone tag site held st
with_tagged deeper alone _ word site tag held st = Some st

abbrev pub with_specifier : Option Entering → Bool → Entering
with_specifier deeper alone st (tagged word site gs tag held) = with_tagged deeper alone (role_of word) word site tag held st
with_specifier deeper alone st _ = Some st

-- what a struct may hold, where they may stand within one another so deep
unfoldable pub deeper_by : ℕ → Option Entering
deeper_by zero = None
deeper_by (suc n) = Some (with_specifier (deeper_by n) false)

-- what is in scope behind specifiers, which stand alone or not
abbrev pub with_specifiers : Bool → List SpecifierTree → Scopes → Option Scopes
with_specifiers alone ss st = in_turn (with_specifier (deeper_by struct_limit) alone) st ss
