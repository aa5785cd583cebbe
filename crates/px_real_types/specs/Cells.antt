-- The cells of a struct, and the parameters of a function that are kept.
use Rattle.std.specs.Prelude.{ℕ, List, [], ◌∷◌, ◌++◌, length, Option, Some, None, is_some, nat_lt, if◌then◌else◌}
use Rattle.px_real_declarations.specs.DeclarationTree.{DeclaredTree, DeclarationTree, declaration, assertion}
use Rattle.px_real_declarations.specs.Names.{declared_name}
use Rattle.px_real_types.specs.declared.shape.Base.TheVariants as B
use Rattle.px_real_types.specs.declared.shape.Shape.{Shape}
use Rattle.px_real_types.specs.declared.shape.ProfileType.{ProfileType}
use Rattle.px_real_types.specs.declared.cells.Cell.{Cell}
use Rattle.px_real_types.specs.Shapes.{as_parameter, in_profile}
use Rattle.px_real_types.specs.Scopes.{Meanings}
use Rattle.px_real_types.specs.Specifiers.{specified}
use Rattle.px_real_types.specs.Declarators.{declared_shape}

-- a cell: its member's name, and its type
pub record CellTree : Type 0 where
  pub name : List ℕ
  pub kind : ProfileType

abbrev pub cell_tree : Cell → CellTree
cell_tree c = record { name = c.name; kind = c.kind }

-- a member that has a name and a type of the profile is a cell
abbrev pub cell_of : Option (List ℕ) → Option ProfileType → List CellTree
cell_of (Some name) (Some kind) = record { name = name; kind = kind } ∷ []
cell_of _ _ = []

-- a bit-field isn't
abbrev pub member_cells : Shape → DeclaredTree → List CellTree
member_cells s x = if is_some x.value then [] else cell_of (declared_name x.declarator) (in_profile (declared_shape x s))

abbrev pub members_cells : Shape → List DeclaredTree → List CellTree
members_cells s [] = []
members_cells s (x ∷ xs) = member_cells s x ++ members_cells s xs

-- those of one declaration; a struct or union in it that names nothing gives none
abbrev pub cells_in : Meanings → DeclarationTree → List CellTree
cells_in scope (declaration ss xs) = members_cells (specified scope ss) xs
cells_in scope (assertion g) = []

abbrev pub all_cells : Meanings → List DeclarationTree → List CellTree
all_cells scope [] = []
all_cells scope (d ∷ ds) = cells_in scope d ++ all_cells scope ds

-- an int that has no name
abbrev pub nameless : CellTree
nameless = record { name = []; kind = record { base = B.Int; stars = 0 } }

-- where there is none, there is such an int
abbrev pub filled : List CellTree → List CellTree
filled [] = nameless ∷ []
filled (c ∷ cs) = c ∷ cs

abbrev pub most_cells : ℕ
most_cells = 64

-- the cells of a struct with these members; with more than 64 it isn't seen
abbrev pub laid_out : List CellTree → Option (List CellTree)
laid_out cs = if nat_lt most_cells (length cs) then None else Some (filled cs)

abbrev pub layout : Meanings → List DeclarationTree → Option (List CellTree)
layout scope ds = laid_out (all_cells scope ds)

-- ---- parameters

-- the type of a parameter, where it is one of the profile; other parameters are erased
abbrev pub parameter_of : Meanings → DeclarationTree → Option ProfileType
parameter_of scope (declaration ss (x ∷ xs)) = in_profile (as_parameter (declared_shape x (specified scope ss)))
parameter_of scope _ = None
