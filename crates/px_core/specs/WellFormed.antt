-- What lowered bodies keep beside types, and symbolic execution relies on.
--
-- Slots are those that the body has. What a load or a call gives is read or unset by the next command. A slot by which
-- an If chooses is an outcome: 1, 0 or unwritten, since no command writes anything else to it. `Leave` stands
-- in the head of a loop, `Break` in a loop's body or step, `Continue` in a loop's body.
use Rattle.std.specs.Prelude.{◌≡◌, ℕ, pos, ◌<◌, ◌≤◌, Bool, false, IsTrue, List, [], ◌∷◌, length, Option, Some, None, IfSome, ⊤}
use Rattle.px_core.specs.declared.command.Operand.{Operand}
use Rattle.px_core.specs.declared.command.Operand.TheVariants.{Slot, Word, Null}
use Rattle.px_core.specs.declared.command.Operator.{Operator}
use Rattle.px_core.specs.declared.command.Operator.TheVariants.{Copy, Neg, Add, Sub, Mul}
use Rattle.px_core.specs.CommandTree.{CommandTree, CommandTrees, assign, unset, read, test, choose, loop, leave, load, store, malloc, free, input, call, return, break, continue, stop, divide, no_commands, a_command}
use Rattle.px_core.specs.BodyTree.{BodyTree}

-- the part of the innermost loop in which a command stands
pub data Where : Type 0 where
  Outside InHead InBody InStep : Where

-- a loop's body or step
abbrev pub IsBreakable : Where → Type 0
IsBreakable Outside = ⊥
IsBreakable InHead = ⊥
IsBreakable InBody = ⊤
IsBreakable InStep = ⊤

-- a slot below n, or no slot
abbrev pub IsOperandBelow : ℕ → Operand → Type 0
IsOperandBelow n (Slot i) = i < n
IsOperandBelow n (Word z) = ⊤
IsOperandBelow n Null = ⊤

abbrev pub AreOperandsBelow : ℕ → List Operand → Type 0
AreOperandsBelow n [] = ⊤
AreOperandsBelow n (a ∷ rest) = IsOperandBelow n a × AreOperandsBelow n rest

-- a slot that is an outcome
abbrev pub IsOutcomeIn : (ℕ → Bool) → Operand → Type 0
IsOutcomeIn outcome (Slot i) = IsTrue (outcome i)
IsOutcomeIn outcome (Word z) = ⊥
IsOutcomeIn outcome Null = ⊥

abbrev pub IsOne : Operand → Type 0
IsOne (Slot i) = ⊥
IsOne (Word z) = z ≡ pos 1
IsOne Null = ⊥

-- a copy of an outcome, or 1 minus one
abbrev pub GivesOutcome : (ℕ → Bool) → Operator → Operand → Operand → Type 0
GivesOutcome outcome Copy a b = IsOutcomeIn outcome a
GivesOutcome outcome Neg a b = ⊥
GivesOutcome outcome Add a b = ⊥
GivesOutcome outcome Sub a b = IsOne a × IsOutcomeIn outcome b
GivesOutcome outcome Mul a b = ⊥

-- the slot of what a load or a call gives, which may be unwritten
abbrev pub to_be_settled : CommandTree → Option ℕ
to_be_settled (load to at field block site) = Some to
to_be_settled (call to proc arguments site) = to
to_be_settled _ = None

-- the command reads this slot, or unsets it
abbrev pub Settles : ℕ → CommandTree → Type 0
Settles slot (read other site) = other ≡ slot
Settles slot (unset other) = other ≡ slot
Settles slot _ = ⊥

abbrev pub SettlesNext : ℕ → CommandTrees → Type 0
SettlesNext slot no_commands = ⊥
SettlesNext slot (a_command c rest) = Settles slot c

-- a slot below n that is no outcome
abbrev pub IsPlainSlot : ℕ → (ℕ → Bool) → ℕ → Type 0
IsPlainSlot n outcome to = (to < n) × (outcome to ≡ false)

-- a command of a body with n slots, of which these are outcomes
abbrev mutual
  pub IsWellFormed : ℕ → (ℕ → Bool) → Where → CommandTree → Type 0
  IsWellFormed n outcome place (assign to op a b) = (to < n) × IsOperandBelow n a × IsOperandBelow n b × (IsTrue (outcome to) → GivesOutcome outcome op a b)
  IsWellFormed n outcome place (unset to) = to < n
  IsWellFormed n outcome place (read slot site) = slot < n
  IsWellFormed n outcome place (test to how a b site) = (to < n) × IsOperandBelow n a × IsOperandBelow n b
  IsWellFormed n outcome place (choose slot first second) = (slot < n) × IsTrue (outcome slot) × AreWellFormed n outcome place first × AreWellFormed n outcome place second
  IsWellFormed n outcome place (loop site head body step) = AreWellFormed n outcome InHead head × AreWellFormed n outcome InBody body × AreWellFormed n outcome InStep step
  IsWellFormed n outcome place leave = place ≡ InHead
  IsWellFormed n outcome place (load to at field block site) = IsPlainSlot n outcome to × IsOperandBelow n at
  IsWellFormed n outcome place (store at field block from site) = IsOperandBelow n at × IsOperandBelow n from
  IsWellFormed n outcome place (malloc to block site) = IsPlainSlot n outcome to
  IsWellFormed n outcome place (free at block site) = IsOperandBelow n at
  IsWellFormed n outcome place (input to site) = IsPlainSlot n outcome to
  IsWellFormed n outcome place (call None proc arguments site) = AreOperandsBelow n arguments
  IsWellFormed n outcome place (call (Some to) proc arguments site) = IsPlainSlot n outcome to × AreOperandsBelow n arguments
  IsWellFormed n outcome place (return None) = ⊤
  IsWellFormed n outcome place (return (Some a)) = IsOperandBelow n a
  IsWellFormed n outcome place break = IsBreakable place
  IsWellFormed n outcome place continue = place ≡ InBody
  IsWellFormed n outcome place (stop word site) = ⊤
  IsWellFormed n outcome place (divide to a b site) = IsPlainSlot n outcome to × IsOperandBelow n a × IsOperandBelow n b

  pub AreWellFormed : ℕ → (ℕ → Bool) → Where → CommandTrees → Type 0
  AreWellFormed n outcome place no_commands = ⊤
  AreWellFormed n outcome place (a_command c rest) = IsWellFormed n outcome place c × IfSome (to_be_settled c) (λ slot. SettlesNext slot rest) × AreWellFormed n outcome place rest

-- the parameters are slots, and no outcomes
pub record IsWellFormedBody (b : BodyTree) : Type 0 where
  pub outcome : ℕ → Bool
  pub room : length b.parameters ≤ b.slots
  pub parameters : (n : ℕ) → n < length b.parameters → outcome n ≡ false
  pub commands : AreWellFormed b.slots outcome Outside b.commands
