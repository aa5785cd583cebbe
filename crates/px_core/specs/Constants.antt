-- Constants are words of 32 bits.
use Rattle.std.specs.Prelude.{List, [], ◌∷◌, None, Some, FitsSigned, ⊤}
use Rattle.std.specs.Int.{w32}
use Rattle.px_core.specs.declared.command.Operand.{Operand}
use Rattle.px_core.specs.declared.command.Operand.TheVariants.{Slot, Word, Null}
use Rattle.px_core.specs.CommandTree.{CommandTree, CommandTrees, assign, unset, read, test, choose, loop, leave, load, store, malloc, free, input, call, return, break, continue, stop, divide, no_commands, a_command}
use Rattle.px_core.specs.BodyTree.{BodyTree}

-- a constant that is an operand is in the range of a word
abbrev pub IsInRange : Operand → Type 0
IsInRange (Slot i) = ⊤
IsInRange (Word z) = FitsSigned w32 z
IsInRange Null = ⊤

abbrev pub AreInRange : List Operand → Type 0
AreInRange [] = ⊤
AreInRange (a ∷ rest) = IsInRange a × AreInRange rest

-- so is each operand of a command, and of those that stand in it
abbrev mutual
  pub KeepsToRange : CommandTree → Type 0
  KeepsToRange (assign to op a b) = IsInRange a × IsInRange b
  KeepsToRange (unset to) = ⊤
  KeepsToRange (read slot site) = ⊤
  KeepsToRange (test to how a b site) = IsInRange a × IsInRange b
  KeepsToRange (choose slot first second) = KeepToRange first × KeepToRange second
  KeepsToRange (loop site head body step) = KeepToRange head × KeepToRange body × KeepToRange step
  KeepsToRange leave = ⊤
  KeepsToRange (load to at field block site) = IsInRange at
  KeepsToRange (store at field block from site) = IsInRange at × IsInRange from
  KeepsToRange (malloc to block site) = ⊤
  KeepsToRange (free at block site) = IsInRange at
  KeepsToRange (input to site) = ⊤
  KeepsToRange (call to proc arguments site) = AreInRange arguments
  KeepsToRange (return None) = ⊤
  KeepsToRange (return (Some a)) = IsInRange a
  KeepsToRange break = ⊤
  KeepsToRange continue = ⊤
  KeepsToRange (stop word site) = ⊤
  KeepsToRange (divide to a b site) = IsInRange a × IsInRange b

  pub KeepToRange : CommandTrees → Type 0
  KeepToRange no_commands = ⊤
  KeepToRange (a_command c rest) = KeepsToRange c × KeepToRange rest

abbrev pub HasConstantsInRange : BodyTree → Type 0
HasConstantsInRange b = KeepToRange b.commands
