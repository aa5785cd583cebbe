-- Members, one after the other.
use Rattle.std.proofs.Common.{◌≡◌, ℕ, List, [], ◌∷◌, ◌++◌, map, Bool, ◌&&◌, not, Option, Some, None, is_some, option_map, Result, Ok, Err, OnOk, IfOk, refl, ap, ap₂, ◌∙◌}
use Rattle.px_expressions.specs.Reading.{or_else}
use Rattle.px_real_declarations.specs.Names.{declared_name}
use Rattle.px_real_declarations.specs.DeclarationTree.{DeclaredTree}
use Rattle.px_real_types.specs.declared.known.Known.{Known}
use Rattle.px_real_types.specs.declared.known.Member.{Member}
use Rattle.px_real_types.specs.declared.known.Member.TheVariants as N
use Rattle.px_real_scopes.specs.Scopes.{NamedTree}
use Rattle.px_real_scopes.specs.Steps.{MembersTree}
use Rattle.px_real_scopes.specs.Entering.{counted, cells_among, member_made, with_member, with_each, inherited}
use Rattle.px_real_scopes.specs.Knowing.{declared_known}

abbrev pub WithOne : Known → MembersTree → DeclaredTree → MembersTree
WithOne k ms x = record ms { members = with_member ms.cells k ms.members x }

abbrev pub WithEach : Known → MembersTree → List DeclaredTree → MembersTree
WithEach k ms xs = record ms { members = with_each ms.cells k ms.members xs }

abbrev pub Inherits : MembersTree → List NamedTree → MembersTree
Inherits ms xs = record ms { members = ms.members ++ map inherited xs }

-- one cell more, or none
pub cells_pushed : (ms : List NamedTree) (m : NamedTree) → cells_among (ms ++ m ∷ []) ≡ counted (cells_among ms) m.member
cells_pushed [] m = refl
cells_pushed (x ∷ ms) m = ap (λ z. counted z x.member) (cells_pushed ms m) ∙ by x.member m.member
  where
    by : (a b : Member) → counted (counted (cells_among ms) b) a ≡ counted (counted (cells_among ms) a) b
    by (N.Cell i t) (N.Cell j u) = refl
    by (N.Cell i t) (N.Other k) = refl
    by (N.Other k) (N.Cell j u) = refl
    by (N.Other k) (N.Other l) = refl

pub on_ok : {E P Q : Type 0} (r : Result Unit E) → (P → Q) → OnOk r P → OnOk r Q
on_ok (Ok u) f h = f h
on_ok (Err e) f h = h

pub some_mapped : {A B : Type 0} (f : A → B) (o : Option A) → is_some o ≡ is_some (option_map f o)
some_mapped f (Some a) = refl
some_mapped f None = refl

module _ (cells : Bool) (k : Known) (ms : List NamedTree) (x : DeclaredTree) where
  abbrev Named : List ℕ → List NamedTree
  Named name = ms ++ record { name = name; member = member_made (cells && not (is_some x.value)) (cells_among ms) (declared_known x k) } ∷ []

  pub member_is : (name given : List ℕ) (m : Member) (field : Bool) (known : Known) → Some name ≡ declared_name x.declarator → given ≡ name → field ≡ is_some x.value → known ≡ declared_known x k →
      m ≡ member_made (cells && not field) (cells_among ms) known → ms ++ record { name = given; member = m } ∷ [] ≡ with_member cells k ms x
  member_is name given m field known h e f g is =
      ap₂ (λ n b. ms ++ record { name = n; member = b } ∷ []) e (is ∙ ap₂ (λ z y. member_made (cells && not z) (cells_among ms) y) f g) ∙ ap (λ z. or_else z Named ms) h

  pub no_member : None ≡ declared_name x.declarator → ms ≡ with_member cells k ms x
  no_member h = ap (λ z. or_else z Named ms) h

pub if_ok : {A E : Type 0} {P Q : A → Type 0} (r : Result A E) → ((a : A) → P a → Q a) → IfOk r P → IfOk r Q
if_ok (Ok a) f h = f a h
if_ok (Err e) f h = h
