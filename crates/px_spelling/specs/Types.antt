-- Types, variables and values.
use Rattle.std.specs.Prelude.{ℕ, List, [], ◌∷◌, ◌++◌, ◌==◌, if◌then◌else◌, ⊤}
use Rattle.px_terms.specs.declared.types.TypeId.{TypeId}
use Rattle.px_terms.specs.declared.types.ValueType.{ValueType}
use Rattle.px_terms.specs.declared.types.ValueType.TheVariants as V
use Rattle.px_terms.specs.declared.types.BlockType.{BlockType}
use Rattle.px_terms.specs.declared.types.BlockType.TheVariants as B
use Rattle.px_terms.specs.declared.variables.Var.{Var}
use Rattle.px_terms.specs.declared.variables.Sort.{Sort}
use Rattle.px_terms.specs.declared.variables.Sort.TheVariants as S
use Rattle.px_terms.specs.declared.variables.VarInfo.{VarInfo}
use Rattle.px_terms.specs.declared.types.Value.{Value}
use Rattle.px_terms.specs.declared.types.Value.TheVariants as W
use Rattle.px_spelling.specs.Reading.{Reader, ◌>>=◌, ◌<*>◌, done, nothing}
use Rattle.px_spelling.specs.Numbers.{u8_at, u32_bytes, IsU32, u32_at, i32_bytes, IsI32, i32_at}
use Rattle.px_spelling.specs.Lists.{list_bytes, IsList, list_at, any_number}

-- the number of a block type
abbrev pub type_id_bytes : TypeId → List ℕ
type_id_bytes s = u32_bytes s.0

abbrev pub IsTypeId : TypeId → Type 0
IsTypeId s = IsU32 s.0

abbrev pub type_id_of : ℕ → TypeId
type_id_of n = record { 0 = n }

unfoldable pub type_id_at : Reader TypeId
type_id_at = done type_id_of <*> u32_at

-- the type of a value
abbrev pub value_type_bytes : ValueType → List ℕ
value_type_bytes V.Int = 0 ∷ []
value_type_bytes (V.Pointer a) = 1 ∷ type_id_bytes a

abbrev pub IsValueType : ValueType → Type 0
IsValueType V.Int = ⊤
IsValueType (V.Pointer a) = IsTypeId a

unfoldable pub value_type_with : ℕ → Reader ValueType
value_type_with tag =
    if tag == 0 then done V.Int else (
    if tag == 1 then done V.Pointer <*> type_id_at else nothing)

unfoldable pub value_type_at : Reader ValueType
value_type_at = u8_at >>= value_type_with

-- what a block holds
abbrev pub block_type_bytes : BlockType → List ℕ
block_type_bytes (B.One a) = 0 ∷ value_type_bytes a
block_type_bytes (B.Fields a) = 1 ∷ list_bytes value_type_bytes a
block_type_bytes B.Opaque = 2 ∷ []

abbrev pub IsBlockType : BlockType → Type 0
IsBlockType (B.One a) = IsValueType a
IsBlockType (B.Fields a) = IsList IsValueType any_number a
IsBlockType B.Opaque = ⊤

unfoldable pub block_type_with : ℕ → Reader BlockType
block_type_with tag =
    if tag == 0 then done B.One <*> value_type_at else (
    if tag == 1 then done B.Fields <*> list_at value_type_at any_number else (
    if tag == 2 then done B.Opaque else nothing))

unfoldable pub block_type_at : Reader BlockType
block_type_at = u8_at >>= block_type_with

-- the number of a variable
abbrev pub var_bytes : Var → List ℕ
var_bytes s = u32_bytes s.0

abbrev pub IsVar : Var → Type 0
IsVar s = IsU32 s.0

abbrev pub var_of : ℕ → Var
var_of n = record { 0 = n }

unfoldable pub var_at : Reader Var
var_at = done var_of <*> u32_at

-- what a variable stands for
abbrev pub sort_bytes : Sort → List ℕ
sort_bytes S.Given = 0 ∷ []
sort_bytes S.Cell = 1 ∷ []
sort_bytes S.Input = 2 ∷ []
sort_bytes S.Made = 3 ∷ []

abbrev pub IsSort : Sort → Type 0
IsSort x = ⊤

unfoldable pub sort_with : ℕ → Reader Sort
sort_with tag =
    if tag == 0 then done S.Given else (
    if tag == 1 then done S.Cell else (
    if tag == 2 then done S.Input else (
    if tag == 3 then done S.Made else nothing)))

unfoldable pub sort_at : Reader Sort
sort_at = u8_at >>= sort_with

-- a variable
abbrev pub var_info_bytes : VarInfo → List ℕ
var_info_bytes s = sort_bytes s.sort ++ value_type_bytes s.value

abbrev pub IsVarInfo : VarInfo → Type 0
IsVarInfo s = IsSort s.sort × IsValueType s.value

abbrev pub var_info_of : Sort → ValueType → VarInfo
var_info_of sort value = record { sort = sort; value = value }

unfoldable pub var_info_at : Reader VarInfo
var_info_at = done var_info_of <*> sort_at <*> value_type_at

-- a value
abbrev pub value_bytes : Value → List ℕ
value_bytes (W.Word a) = 0 ∷ i32_bytes a
value_bytes W.Null = 1 ∷ []
value_bytes (W.Block a) = 2 ∷ u32_bytes a
value_bytes W.Unwritten = 3 ∷ []

abbrev pub IsValue : Value → Type 0
IsValue (W.Word a) = IsI32 a
IsValue W.Null = ⊤
IsValue (W.Block a) = IsU32 a
IsValue W.Unwritten = ⊤

unfoldable pub value_with : ℕ → Reader Value
value_with tag =
    if tag == 0 then done W.Word <*> i32_at else (
    if tag == 1 then done W.Null else (
    if tag == 2 then done W.Block <*> u32_at else (
    if tag == 3 then done W.Unwritten else nothing)))

unfoldable pub value_at : Reader Value
value_at = u8_at >>= value_with
