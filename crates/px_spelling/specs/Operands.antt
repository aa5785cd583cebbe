-- What commands take.
use Rattle.std.specs.Prelude.{ℕ, List, [], ◌∷◌, ◌==◌, if◌then◌else◌, ⊤}
use Rattle.px_core.specs.declared.command.Operand.{Operand}
use Rattle.px_core.specs.declared.command.Operand.TheVariants as A
use Rattle.px_core.specs.declared.command.Operator.{Operator}
use Rattle.px_core.specs.declared.command.Operator.TheVariants as O
use Rattle.px_core.specs.declared.command.Comparison.{Comparison}
use Rattle.px_core.specs.declared.command.Comparison.TheVariants as T
use Rattle.px_spelling.specs.Reading.{Reader, ◌>>=◌, ◌<*>◌, done, nothing}
use Rattle.px_spelling.specs.Numbers.{u8_at, u32_bytes, IsU32, u32_at, i32_bytes, IsI32, i32_at}

-- what a command takes
abbrev pub operand_bytes : Operand → List ℕ
operand_bytes (A.Slot a) = 0 ∷ u32_bytes a
operand_bytes (A.Word a) = 1 ∷ i32_bytes a
operand_bytes A.Null = 2 ∷ []

abbrev pub IsOperand : Operand → Type 0
IsOperand (A.Slot a) = IsU32 a
IsOperand (A.Word a) = IsI32 a
IsOperand A.Null = ⊤

unfoldable pub operand_with : ℕ → Reader Operand
operand_with tag =
    if tag == 0 then done A.Slot <*> u32_at else (
    if tag == 1 then done A.Word <*> i32_at else (
    if tag == 2 then done A.Null else nothing))

unfoldable pub operand_at : Reader Operand
operand_at = u8_at >>= operand_with

-- how words are made of words
abbrev pub operator_bytes : Operator → List ℕ
operator_bytes O.Copy = 0 ∷ []
operator_bytes O.Neg = 1 ∷ []
operator_bytes O.Add = 2 ∷ []
operator_bytes O.Sub = 3 ∷ []
operator_bytes O.Mul = 4 ∷ []

abbrev pub IsOperator : Operator → Type 0
IsOperator x = ⊤

unfoldable pub operator_with : ℕ → Reader Operator
operator_with tag =
    if tag == 0 then done O.Copy else (
    if tag == 1 then done O.Neg else (
    if tag == 2 then done O.Add else (
    if tag == 3 then done O.Sub else (
    if tag == 4 then done O.Mul else nothing))))

unfoldable pub operator_at : Reader Operator
operator_at = u8_at >>= operator_with

-- what a test asks
abbrev pub comparison_bytes : Comparison → List ℕ
comparison_bytes T.Equal = 0 ∷ []
comparison_bytes T.Unequal = 1 ∷ []
comparison_bytes T.Less = 2 ∷ []
comparison_bytes T.AtMost = 3 ∷ []
comparison_bytes T.SamePlace = 4 ∷ []
comparison_bytes T.OtherPlace = 5 ∷ []

abbrev pub IsComparison : Comparison → Type 0
IsComparison x = ⊤

unfoldable pub comparison_with : ℕ → Reader Comparison
comparison_with tag =
    if tag == 0 then done T.Equal else (
    if tag == 1 then done T.Unequal else (
    if tag == 2 then done T.Less else (
    if tag == 3 then done T.AtMost else (
    if tag == 4 then done T.SamePlace else (
    if tag == 5 then done T.OtherPlace else nothing)))))

unfoldable pub comparison_at : Reader Comparison
comparison_at = u8_at >>= comparison_with
