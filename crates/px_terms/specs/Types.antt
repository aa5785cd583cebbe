-- The cells of blocks.
use Rattle.std.specs.Prelude.{List, [], ◌∷◌, Option, Some, None}
use Rattle.px_terms.specs.declared.types.ValueType.{ValueType}
use Rattle.px_terms.specs.declared.types.BlockType.{BlockType}
use Rattle.px_terms.specs.declared.types.BlockType.TheVariants.{One, Fields, Opaque}

-- the types of a block's cells, in order; of a struct without a definition none are known
abbrev pub cell_types : BlockType → List ValueType
cell_types (One t) = t ∷ []
cell_types (Fields ts) = ts
cell_types Opaque = []

-- the types of the cells of the blocks of this type, where there is one
abbrev pub types_of : Option BlockType → List ValueType
types_of None = []
types_of (Some t) = cell_types t
