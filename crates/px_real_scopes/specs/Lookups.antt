-- What is found: a name, a tag or a place means what its nearest declaration says.
use Rattle.std.specs.Prelude.{ℕ, List, [], ◌∷◌, slice_get, Bool, false, ◌&&◌, not, Option, Some, None, is_some, nat_eq, if◌then◌else◌}
use Rattle.std.specs.Str.{bytes_eq}
use Rattle.px_base.specs.declared.trace.Site.{Site}
use Rattle.px_expressions.specs.Reading.{or_else}
use Rattle.px_real_declarations.specs.Grammar.{Types}
use Rattle.px_real_types.specs.declared.shape.Base.TheVariants as B
use Rattle.px_real_types.specs.declared.shape.Shape.{Shape}
use Rattle.px_real_types.specs.declared.shape.Shape.TheVariants as S
use Rattle.px_real_types.specs.Scopes.{Meanings}
use Rattle.px_real_types.specs.declared.known.Known.{Known}
use Rattle.px_real_types.specs.declared.known.Known.TheVariants as K
use Rattle.px_real_types.specs.declared.known.Member.{Member}
use Rattle.px_real_types.specs.Types.{unknown}
use Rattle.px_real_scopes.specs.Scopes.{MeaningTree, a_type, TagTree, a_record, BindingTree, begins_block, of_name, of_tag, of_place, NamedTree, DefinitionTree, Scopes}

-- what the first of these says that says something
abbrev pub first_said : {A B : Type 0} → (A → Option B) → List A → Option B
first_said says [] = None
first_said says (x ∷ xs) = or_else (says x) (λ b. Some b) (first_said says xs)

-- ---- of one name, tag or place

abbrev pub says_name : List ℕ → BindingTree → Option MeaningTree
says_name word (of_name name m) = if bytes_eq word name then Some m else None
says_name word _ = None

abbrev pub says_tag : List ℕ → BindingTree → Option TagTree
says_tag word (of_tag tag t) = if bytes_eq word tag then Some t else None
says_tag word _ = None

abbrev pub same_place : Site → Site → Bool
same_place a b = nat_eq a.file b.file && (nat_eq a.line b.line && nat_eq a.column b.column)

abbrev pub says_place : Site → BindingTree → Option ℕ
says_place site (of_place place n) = if same_place site place then Some n else None
says_place site _ = None

abbrev pub meaning_of : List BindingTree → List ℕ → Option MeaningTree
meaning_of bs word = first_said (says_name word) bs

abbrev pub tag_of : List BindingTree → List ℕ → Option TagTree
tag_of bs tag = first_said (says_tag tag) bs

-- the number of the struct or union that has no tag, at its place
abbrev pub placed : List BindingTree → Site → Option ℕ
placed bs site = first_said (says_place site) bs

-- ---- blocks

-- what was declared in the innermost block
abbrev pub own_block : List BindingTree → List BindingTree
own_block [] = []
own_block (begins_block ∷ bs) = []
own_block (b ∷ bs) = b ∷ own_block bs

-- what is in scope behind it
abbrev pub behind_block : List BindingTree → List BindingTree
behind_block [] = []
behind_block (begins_block ∷ bs) = bs
behind_block (b ∷ bs) = behind_block bs

abbrev pub entered : Scopes → Scopes
entered st = record st { bindings = begins_block ∷ st.bindings }

abbrev pub left : Scopes → Scopes
left st = record st { bindings = behind_block st.bindings }

-- ---- structs and unions, by their numbers

abbrev pub flag_at : List Bool → ℕ → Bool
flag_at flags n = or_else (slice_get flags n) (λ b. b) false

-- a struct, unless nothing is seen of it
abbrev pub is_seen : Scopes → ℕ → Bool
is_seen st n = flag_at st.records n && not (flag_at st.hidden n)

abbrev pub record_known : Scopes → ℕ → Known
record_known st n = if is_seen st n then K.Seen (S.Value (B.Struct n) 0) else K.Record n

abbrev pub record_shape : Scopes → ℕ → Shape
record_shape st n = if is_seen st n then S.Value (B.Struct n) 0 else S.Outside

abbrev pub says_members : ℕ → DefinitionTree → Option (List NamedTree)
says_members n d = if nat_eq d.number n then Some d.members else None

-- the members of one that is defined
abbrev pub members_of : Scopes → ℕ → Option (List NamedTree)
members_of st n = first_said (says_members n) st.definitions

abbrev pub is_defined : Scopes → ℕ → Bool
is_defined st n = is_some (members_of st n)

abbrev pub says_member : List ℕ → NamedTree → Option Member
says_member name m = if bytes_eq name m.name then Some m.member else None

-- the member of this name
abbrev pub member_of : Scopes → ℕ → List ℕ → Option Member
member_of st n name = or_else (members_of st n) (first_said (says_member name)) None

-- ---- what names and tags say of types

abbrev pub seen : Known → Shape
seen (K.Seen s) = s
seen _ = S.Outside

abbrev pub type_in : Option MeaningTree → Option Known
type_in (Some (a_type k)) = Some k
type_in _ = None

abbrev pub number_in : Option TagTree → Option ℕ
number_in (Some (a_record n)) = Some n
number_in _ = None

-- the words that are names of types
abbrev pub are_types : List BindingTree → Types
are_types bs word = is_some (type_in (meaning_of bs word))

-- the type that a word names
abbrev pub known_type : List BindingTree → List ℕ → Known
known_type bs word = or_else (type_in (meaning_of bs word)) (λ k. k) unknown

-- the struct or union with this tag, or at this place
abbrev pub number_of : List BindingTree → Option (List ℕ) → Site → Option ℕ
number_of bs (Some tag) site = number_in (tag_of bs tag)
number_of bs None site = placed bs site

abbrev pub shape_of : Scopes → Option ℕ → Shape
shape_of st o = or_else o (record_shape st) S.Outside

abbrev pub meanings : Scopes → Meanings
meanings st = record {
  named = λ word. seen (known_type st.bindings word);
  tagged = λ tag. shape_of st (number_in (tag_of st.bindings tag));
  placed = λ site. shape_of st (placed st.bindings site);
}
