-- What the bodies of a program keep of types: each slot has one type, and each command takes and gives
-- values by their types.
use Rattle.std.specs.Prelude.{◌≡◌, ℕ, List, [], ◌∷◌, Option, Some, IsSome, IfSome, IsSomeAnd, FitsSigned, slice_get, ⊤}
use Rattle.std.specs.Int.{w32}
use Rattle.px_terms.specs.Types.{types_of}
use Rattle.px_core.specs.declared.command.Operand.{Operand}
use Rattle.px_core.specs.declared.command.Operand.TheVariants as operand
use Rattle.px_core.specs.declared.command.Operator.{Operator}
use Rattle.px_core.specs.declared.command.Operator.TheVariants.{Copy, Neg, Add, Sub, Mul}
use Rattle.px_core.specs.declared.command.Comparison.{Comparison}
use Rattle.px_core.specs.declared.command.Comparison.TheVariants.{Equal, Unequal, Less, AtMost, SamePlace, OtherPlace}
use Rattle.px_core.specs.BodyTree.{BodyTree}
use Rattle.px_core.specs.CommandTree.{CommandTree, CommandTrees, assign, unset, read, test, choose, loop, leave, load, store, malloc, free, input, call, return, break, continue, stop, divide, no_commands, a_command}
use Rattle.px_meaning.specs.Values.{TypeId, ValueType, Int, Pointer}
use Rattle.px_meaning.specs.CoreCalls.{CoreProgram}

-- the type of each slot
abbrev pub SlotTypes : Type 0
SlotTypes = ℕ → ValueType

-- an operand of this type
abbrev pub IsOperandOf : SlotTypes → ValueType → Operand → Type 0
IsOperandOf slots t (operand.Slot n) = slots n ≡ t
IsOperandOf slots t (operand.Word z) = (t ≡ Int) × FitsSigned w32 z
IsOperandOf slots t operand.Null = (block : TypeId) × (t ≡ Pointer block)

-- operands of these types, in order
abbrev pub AreOperandsOf : SlotTypes → List ValueType → List Operand → Type 0
AreOperandsOf slots [] [] = ⊤
AreOperandsOf slots (t ∷ ts) (a ∷ rest) = IsOperandOf slots t a × AreOperandsOf slots ts rest
AreOperandsOf slots _ _ = ⊥

-- a value of this type comes of the operator and its operands
abbrev pub IsOperationOf : SlotTypes → ValueType → Operator → Operand → Operand → Type 0
IsOperationOf slots t Copy a b = IsOperandOf slots t a
IsOperationOf slots t Neg a b = (t ≡ Int) × IsOperandOf slots Int a
IsOperationOf slots t Add a b = (t ≡ Int) × IsOperandOf slots Int a × IsOperandOf slots Int b
IsOperationOf slots t Sub a b = (t ≡ Int) × IsOperandOf slots Int a × IsOperandOf slots Int b
IsOperationOf slots t Mul a b = (t ≡ Int) × IsOperandOf slots Int a × IsOperandOf slots Int b

-- two words are compared, or two pointers to blocks of one type
abbrev pub AreComparedBy : SlotTypes → Comparison → Operand → Operand → Type 0
AreComparedBy slots Equal a b = IsOperandOf slots Int a × IsOperandOf slots Int b
AreComparedBy slots Unequal a b = IsOperandOf slots Int a × IsOperandOf slots Int b
AreComparedBy slots Less a b = IsOperandOf slots Int a × IsOperandOf slots Int b
AreComparedBy slots AtMost a b = IsOperandOf slots Int a × IsOperandOf slots Int b
AreComparedBy slots SamePlace a b = (block : TypeId) × IsOperandOf slots (Pointer block) a × IsOperandOf slots (Pointer block) b
AreComparedBy slots OtherPlace a b = (block : TypeId) × IsOperandOf slots (Pointer block) a × IsOperandOf slots (Pointer block) b

-- the type of a block type's cell
abbrev pub cell_type : CoreProgram → TypeId → ℕ → Option ValueType
cell_type P block field = slice_get (types_of (slice_get P.types block.0)) field

-- a command of a body with this result type keeps to the types of the slots; a callee without a body
-- takes and gives anything, since it is never executed
abbrev mutual
  pub IsTyped : CoreProgram → SlotTypes → Option ValueType → CommandTree → Type 0
  IsTyped P slots result (assign to op a b) = IsOperationOf slots (slots to) op a b
  IsTyped P slots result (unset to) = ⊤
  IsTyped P slots result (read slot site) = ⊤
  IsTyped P slots result (test to how a b site) = (slots to ≡ Int) × AreComparedBy slots how a b
  IsTyped P slots result (choose slot first second) = (slots slot ≡ Int) × AreTyped P slots result first × AreTyped P slots result second
  IsTyped P slots result (loop site head body step) = AreTyped P slots result head × AreTyped P slots result body × AreTyped P slots result step
  IsTyped P slots result leave = ⊤
  IsTyped P slots result (load to at field block site) = IsOperandOf slots (Pointer block) at × (cell_type P block field.0 ≡ Some (slots to))
  IsTyped P slots result (store at field block from site) =
      IsOperandOf slots (Pointer block) at × ((t : ValueType) × (cell_type P block field.0 ≡ Some t) × IsOperandOf slots t from)
  IsTyped P slots result (malloc to block site) = (slots to ≡ Pointer block) × IsSome (slice_get P.types block.0)
  IsTyped P slots result (free at block site) = IsOperandOf slots (Pointer block) at
  IsTyped P slots result (input to site) = slots to ≡ Int
  IsTyped P slots result (call to proc arguments site) =
      IfSome (P.bodies proc.0) (λ b. AreOperandsOf slots b.parameters arguments × IfSome to (λ n. b.result ≡ Some (slots n)))
  IsTyped P slots result (return from) = IfSome from (λ a. IsSomeAnd result (λ t. IsOperandOf slots t a))
  IsTyped P slots result break = ⊤
  IsTyped P slots result continue = ⊤
  IsTyped P slots result (stop word site) = ⊤
  IsTyped P slots result (divide to a b site) = (slots to ≡ Int) × IsOperandOf slots Int a × IsOperandOf slots Int b

  pub AreTyped : CoreProgram → SlotTypes → Option ValueType → CommandTrees → Type 0
  AreTyped P slots result no_commands = ⊤
  AreTyped P slots result (a_command c rest) = IsTyped P slots result c × AreTyped P slots result rest

-- the slots of a body have types, the first those of the parameters, to which the commands keep
pub record IsTypedBody (P : CoreProgram) (b : BodyTree) : Type 0 where
  pub slots : SlotTypes
  pub parameters : (n : ℕ) (t : ValueType) → slice_get b.parameters n ≡ Some t → slots n ≡ t
  pub commands : AreTyped P slots b.result b.commands

-- each body of the program keeps to types
abbrev pub KeepsTypes : CoreProgram → Type 0
KeepsTypes P = (f : ℕ) (b : BodyTree) → P.bodies f ≡ Some b → IsTypedBody P b
