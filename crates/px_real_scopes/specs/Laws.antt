-- What holds of what is in scope, and of the members of structs and unions.
use Rattle.std.specs.Prelude.{◌≡◌, ℕ, zero, suc, List, [], ◌∷◌, ◌++◌, Bool, true, Some}
use Rattle.px_real_declarations.specs.DeclarationTree.{SpecifierTree, DeclaredTree, DeclarationTree, declaration}
use Rattle.px_real_types.specs.Cells.{CellTree, cells_in}
use Rattle.px_real_types.specs.declared.known.Member.{Member}
use Rattle.px_real_types.specs.declared.known.Member.TheVariants as N
use Rattle.px_real_scopes.specs.Scopes.{NamedTree, Scopes}
use Rattle.px_real_scopes.specs.Lookups.{meanings, entered, left}
use Rattle.px_real_scopes.specs.Entering.{in_turn, cells_among, with_members}
use Rattle.px_real_scopes.specs.Behind.{behind}

-- ---- the cells of a struct are those that px_real_types says, declaration by declaration

abbrev pub cell_made : List ℕ → Member → List CellTree
cell_made name (N.Cell number kind) = record { name = name; kind = kind } ∷ []
cell_made name (N.Other k) = []

abbrev pub cells_of : List NamedTree → List CellTree
cells_of [] = []
cells_of (m ∷ ms) = cell_made m.name m.member ++ cells_of ms

abbrev pub CellsAgree : Type 0
CellsAgree = (st : Scopes) (ss : List SpecifierTree) (xs : List DeclaredTree) (ms : List NamedTree) → cells_of (with_members true st ss ms xs) ≡ cells_of ms ++ cells_in (meanings st) (declaration ss xs)

-- ---- they are numbered in order, from 0 on

abbrev pub number_made : Member → List ℕ
number_made (N.Cell number kind) = number ∷ []
number_made (N.Other k) = []

abbrev pub cell_numbers : List NamedTree → List ℕ
cell_numbers [] = []
cell_numbers (m ∷ ms) = number_made m.member ++ cell_numbers ms

abbrev pub counted_to : ℕ → List ℕ
counted_to zero = []
counted_to (suc n) = counted_to n ++ n ∷ []

abbrev pub AreNumbered : List NamedTree → Type 0
AreNumbered ms = cell_numbers ms ≡ counted_to (cells_among ms)

abbrev pub CellsAreNumbered : Type 0
CellsAreNumbered = (cells : Bool) (st : Scopes) (ss : List SpecifierTree) (xs : List DeclaredTree) (ms : List NamedTree) → AreNumbered ms → AreNumbered (with_members cells st ss ms xs)

-- ---- whatever declarations stand in a block, behind it all is in scope that was before it

abbrev pub BlocksAreLeft : Type 0
BlocksAreLeft = (st st1 : Scopes) (ds : List DeclarationTree) → in_turn behind (entered st) ds ≡ Some st1 → (left st1).bindings ≡ st.bindings
