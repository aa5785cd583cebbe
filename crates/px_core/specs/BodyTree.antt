-- Bodies as plain data.
use Rattle.std.specs.Prelude.{ℕ, List, Option, map}
use Rattle.px_terms.specs.declared.types.ValueType.{ValueType}
use Rattle.px_core.specs.CommandTree.{CommandTrees, commands_of, command_tree}
use Rattle.px_core.specs.declared.body.Body.{Body}

pub record BodyTree : Type 0 where
  pub slots : ℕ
  pub parameters : List ValueType
  pub result : Option ValueType
  pub commands : CommandTrees

-- a body as plain data
abbrev pub body_tree : Body → BodyTree
body_tree b = record { slots = b.slots; parameters = b.parameters; result = b.result; commands = commands_of (map command_tree b.commands.items) }
