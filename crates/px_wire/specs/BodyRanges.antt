-- Whether the slots and block types that a body names are there.
use Rattle.std.specs.Prelude.{ℕ, ◌+◌, Option, Some, None, Bool, true, ◌&&◌, nat_lt, nat_le, length}
use Rattle.std.specs.List.{list_all}
use Rattle.px_base.specs.Bounds.{most_parameters, most_commands}
use Rattle.px_terms.specs.declared.types.ValueType.{ValueType}
use Rattle.px_core.specs.declared.command.Operand.{Operand}
use Rattle.px_core.specs.declared.command.Operand.TheVariants.{Slot, Word, Null}
use Rattle.px_core.specs.CommandTree.{CommandTree, CommandTrees, assign, unset, read, test, choose, loop, leave, load, store, malloc, free, input, call, return, break, continue, stop, no_commands, a_command, divide}
use Rattle.px_core.specs.BodyTree.{BodyTree}
use Rattle.px_wire.specs.TermRanges.{value_type_within}

-- of s slots
abbrev pub operand_within : ℕ → Operand → Bool
operand_within s (Slot i) = nat_lt i s
operand_within s (Word z) = true
operand_within s Null = true

abbrev pub to_within : ℕ → Option ℕ → Bool
to_within s None = true
to_within s (Some i) = nat_lt i s

abbrev pub from_within : ℕ → Option Operand → Bool
from_within s None = true
from_within s (Some a) = operand_within s a

abbrev pub value_within : ℕ → Option ValueType → Bool
value_within t None = true
value_within t (Some v) = value_type_within t v

-- of s slots and t block types
abbrev mutual
  pub command_within : ℕ → ℕ → CommandTree → Bool
  command_within s t (assign to op a b) = nat_lt to s && (operand_within s a && operand_within s b)
  command_within s t (unset to) = nat_lt to s
  command_within s t (read slot site) = nat_lt slot s
  command_within s t (test to how a b site) = nat_lt to s && (operand_within s a && operand_within s b)
  command_within s t (choose slot then other) = nat_lt slot s && (commands_within s t then && commands_within s t other)
  command_within s t (loop site head body step) = commands_within s t head && (commands_within s t body && commands_within s t step)
  command_within s t leave = true
  command_within s t (load to at field block site) = nat_lt to s && (operand_within s at && nat_lt block.0 t)
  command_within s t (store at field block from site) = operand_within s at && (nat_lt block.0 t && operand_within s from)
  command_within s t (malloc to block site) = nat_lt to s && nat_lt block.0 t
  command_within s t (free at block site) = operand_within s at && nat_lt block.0 t
  command_within s t (input to site) = nat_lt to s
  command_within s t (call to proc arguments site) = to_within s to && list_all (operand_within s) arguments
  command_within s t (return from) = from_within s from
  command_within s t break = true
  command_within s t continue = true
  command_within s t (stop word site) = true
  command_within s t (divide to a b site) = nat_lt to s && (operand_within s a && operand_within s b)

  pub commands_within : ℕ → ℕ → CommandTrees → Bool
  commands_within s t no_commands = true
  commands_within s t (a_command c rest) = command_within s t c && commands_within s t rest

-- a slot for each parameter, and one for each command
abbrev pub most_slots : ℕ
most_slots = most_parameters + most_commands

-- the parameters have slots
abbrev pub body_within : ℕ → BodyTree → Bool
body_within t b =
    nat_le (length b.parameters) b.slots
    && (nat_le b.slots most_slots
    && (list_all (value_type_within t) b.parameters
    && (value_within t b.result
    && commands_within b.slots t b.commands)))
