-- The type that specifiers say (C11 6.7.2): words in any order, of which a type is one alone, but for `signed int`.
use Rattle.std.specs.Prelude.{ℕ, List, [], ◌∷◌, Bool, true, false, Option, Some, None, if◌then◌else◌}
use Rattle.px_base.specs.declared.trace.Site.{Site}
use Rattle.px_real_declarations.specs.declared.role.Role.{Role}
use Rattle.px_real_declarations.specs.declared.role.Role.TheVariants as R
use Rattle.px_real_declarations.specs.Roles.{role_of}
use Rattle.px_real_declarations.specs.DeclarationTree.{GroupTree, SpecifierTree, keyword, type_name, group, tagged}
use Rattle.px_real_types.specs.declared.shape.Base.TheVariants as B
use Rattle.px_real_types.specs.declared.shape.Shape.{Shape}
use Rattle.px_real_types.specs.declared.shape.Shape.TheVariants as S
use Rattle.px_real_types.specs.declared.words.Mark.{Mark}
use Rattle.px_real_types.specs.declared.words.Mark.TheVariants as M
use Rattle.px_real_types.specs.declared.words.Says.{Says}
use Rattle.px_real_types.specs.declared.words.Says.TheVariants as K
use Rattle.px_real_types.specs.declared.specifiers.Said.{Said}
use Rattle.px_real_types.specs.declared.specifiers.Said.TheVariants as D
use Rattle.px_real_types.specs.Words.{says_of, is_struct_word}
use Rattle.px_real_types.specs.Scopes.{Meanings, any_marks}

-- ---- attributes

-- whether what is looked for stands in one of these
abbrev pub groups_mark : Mark → List GroupTree → Bool
groups_mark mark [] = false
groups_mark mark (g ∷ gs) = if any_marks mark g.held then true else groups_mark mark gs

-- this type, unless it is another by these
abbrev pub unless_spoilt : Bool → Shape → Shape
unless_spoilt spoilt s = if spoilt then S.Outside else s

-- ---- specifiers, one by one

abbrev pub spoilt : Said
spoilt = D.A (S.Outside)

abbrev pub with_int : Said → Said
with_int D.Nothing = D.Int
with_int D.Signed = D.SignedInt
with_int _ = spoilt

abbrev pub with_signed : Said → Said
with_signed D.Nothing = D.Signed
with_signed D.Int = D.SignedInt
with_signed _ = spoilt

abbrev pub with_shape : Shape → Said → Said
with_shape s D.Nothing = D.A s
with_shape s _ = spoilt

abbrev pub with_word : Says → Said → Said
with_word K.Nothing said = said
with_word K.Int said = with_int said
with_word K.Signed said = with_signed said
with_word K.Spoils said = spoilt

-- a keyword with parentheses: an alignment changes nothing, nor does an attribute but some; `__typeof__` and `_Atomic` spoil the type
abbrev pub with_group : Role → Bool → Said → Said
with_group R.Alignment spoils said = said
with_group R.Attribute spoils said = if spoils then spoilt else said
with_group _ spoils said = spoilt

-- the struct, by its tag or its place
abbrev pub struct_of : Meanings → Option (List ℕ) → Site → Shape
struct_of scope (Some tag) site = scope.tagged tag
struct_of scope None site = scope.placed site

-- unions and enumerations aren't seen
abbrev pub tagged_shape : Meanings → List ℕ → Option (List ℕ) → Site → Shape
tagged_shape scope word tag site = if is_struct_word word then struct_of scope tag site else S.Outside

abbrev pub with_specifier : Meanings → Said → SpecifierTree → Said
with_specifier scope said (keyword word site) = with_word (says_of word) said
with_specifier scope said (type_name word site) = with_shape (scope.named word) said
with_specifier scope said (group g) = with_group (role_of g.word) (any_marks M.Spoils g.held) said
with_specifier scope said (tagged word site gs tag held) = with_shape (unless_spoilt (groups_mark M.Spoils gs) (tagged_shape scope word tag site)) said

abbrev pub said_by : Meanings → Said → List SpecifierTree → Said
said_by scope said [] = said
said_by scope said (s ∷ ss) = said_by scope (with_specifier scope said s) ss

-- what was said in the end: `int`, `signed` or both are one type, and nothing is none
abbrev pub shape_of : Said → Shape
shape_of D.Nothing = S.Outside
shape_of (D.A s) = s
shape_of _ = S.Value B.Int 0

abbrev pub specified : Meanings → List SpecifierTree → Shape
specified scope ss = shape_of (said_by scope D.Nothing ss)

-- ---- behind a star

-- whether it makes the pointer another type: `volatile`, `_Atomic` and some attributes do
abbrev pub word_spoils : Says → Bool
word_spoils K.Nothing = false
word_spoils _ = true

abbrev pub qualifier_spoils : SpecifierTree → Bool
qualifier_spoils (keyword word site) = word_spoils (says_of word)
qualifier_spoils (group g) = any_marks M.Spoils g.held
qualifier_spoils _ = true

abbrev pub qualifiers_spoil : List SpecifierTree → Bool
qualifiers_spoil [] = false
qualifiers_spoil (s ∷ ss) = if qualifier_spoils s then true else qualifiers_spoil ss
