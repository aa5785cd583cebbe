-- What is known of the type that a declaration says: its shape, and beyond that which struct or union it is, or that it is an array.
use Rattle.std.specs.Prelude.{ℕ, List, ◌∷◌, Bool, true, false, ◌||◌, Option, Some, None, is_some, codes, if◌then◌else◌}
use Rattle.px_expressions.specs.Reading.{or_else}
use Rattle.px_real_declarations.specs.DeclarationTree.{SpecifierTree, keyword, type_name, group, tagged, says_type, DeclaratorTree, no_name, a_name, inner, pointer, array, function, DeclaredTree}
use Rattle.px_real_declaring.specs.declared.tree.Suffix.{Suffix}
use Rattle.px_real_declaring.specs.declared.tree.Suffix.TheVariants as X
use Rattle.px_real_types.specs.declared.shape.Shape.{Shape}
use Rattle.px_real_types.specs.declared.shape.Shape.TheVariants as S
use Rattle.px_real_types.specs.Shapes.{as_parameter}
use Rattle.px_real_types.specs.Specifiers.{specified}
use Rattle.px_real_types.specs.Declarators.{bare_name, declared_shape}
use Rattle.px_real_types.specs.declared.known.Known.{Known}
use Rattle.px_real_types.specs.declared.known.Known.TheVariants as K
use Rattle.px_real_types.specs.Types.{unknown, is_array, record_in}
use Rattle.px_real_scopes.specs.Scopes.{Scopes}
use Rattle.px_real_scopes.specs.Lookups.{first_said, seen, known_type, number_of, record_known, meanings}

-- beyond a shape that isn't seen
abbrev pub beyond : Known → Known
beyond k = if is_array k then K.Array else or_else (record_in k) (λ n. K.Record n) unknown

-- a type of this shape, or of what is known beyond it
abbrev pub with_shape : Shape → Known → Known
with_shape S.Outside k = beyond k
with_shape s k = K.Seen s

-- ---- specifiers

abbrev pub if_type : SpecifierTree → Option SpecifierTree
if_type s = if says_type s then Some s else None

-- the first that says a type
abbrev pub type_specifier : List SpecifierTree → Option SpecifierTree
type_specifier ss = first_said if_type ss

abbrev pub specifier_word : SpecifierTree → List ℕ
specifier_word (keyword word site) = word
specifier_word (type_name word site) = word
specifier_word (group g) = g.word
specifier_word (tagged word site gs tag held) = word

-- the first word of the type, as it is written, that is no qualifier and no storage class; a type that isn't written is `int`
abbrev pub type_word : List SpecifierTree → List ℕ
type_word ss = or_else (type_specifier ss) specifier_word (codes "int")

abbrev pub specifier_known : Scopes → SpecifierTree → Known
specifier_known st (type_name word site) = known_type st.bindings word
specifier_known st (tagged word site gs tag held) = or_else (number_of st.bindings tag site) (record_known st) unknown
specifier_known st _ = unknown

-- of the first that says a type
abbrev pub said_known : Scopes → List SpecifierTree → Known
said_known st ss = or_else (type_specifier ss) (specifier_known st) unknown

abbrev pub specified_known : Scopes → List SpecifierTree → Known
specified_known st ss = with_shape (specified (meanings st) ss) (said_known st ss)

-- ---- declarators

-- whether brackets stand directly behind the name
abbrev pub is_array_of : DeclaratorTree → Bool
is_array_of no_name = false
is_array_of (a_name word site) = false
is_array_of (inner site gs d) = is_array_of d
is_array_of (pointer site ss d) = is_array_of d
is_array_of (array site d held) = is_some (bare_name d) || is_array_of d
is_array_of (function site d held) = is_array_of d

-- whether brackets are the first that stands behind a declarator
abbrev pub begins_array : List Suffix → Bool
begins_array (X.Array site held ∷ ss) = true
begins_array _ = false

-- what is known beyond the shape: of a name alone what its specifiers say
abbrev pub beyond_by : Bool → Bool → Known → Known
beyond_by bare brackets k = if bare then k else (if brackets then K.Array else unknown)

abbrev pub beyond_declarator : DeclaratorTree → Known → Known
beyond_declarator d k = beyond_by (is_some (bare_name d)) (is_array_of d) k

-- the type of what is declared, where its specifiers say this one
abbrev pub declared_known : DeclaredTree → Known → Known
declared_known x k = with_shape (declared_shape x (seen k)) (beyond_declarator x.declarator k)

-- a parameter that is declared as an array is a pointer (6.7.6.3)
abbrev pub parameter_known : Known → Known
parameter_known (K.Seen s) = K.Seen (as_parameter s)
parameter_known K.Array = unknown
parameter_known (K.Record n) = K.Record n
