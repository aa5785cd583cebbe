-- Bodies as bytes.
use Rattle.std.specs.Prelude.{ℕ, ◌≤◌, List, ◌++◌, Option, IfSome}
use Rattle.px_base.specs.Bounds.{most_parameters, most_commands}
use Rattle.px_terms.specs.declared.types.ValueType.{ValueType}
use Rattle.px_core.specs.CommandTree.{CommandTrees}
use Rattle.px_core.specs.BodyTree.{BodyTree}
use Rattle.px_core.specs.Sizes.{commands_size}
use Rattle.px_spelling.specs.Reading.{Reader, ◌<*>◌, done}
use Rattle.px_spelling.specs.Numbers.{u32_bytes, IsU32, u32_at}
use Rattle.px_spelling.specs.Lists.{list_bytes, IsList, list_at, option_bytes, option_at}
use Rattle.px_spelling.specs.Types.{value_type_bytes, IsValueType, value_type_at}
use Rattle.px_body_spelling.specs.Commands.{commands_bytes, AreCommands, commands_at}

abbrev pub body_bytes : BodyTree → List ℕ
body_bytes b = u32_bytes b.slots ++ list_bytes value_type_bytes b.parameters ++ option_bytes value_type_bytes b.result ++ commands_bytes b.commands

-- its numbers are in range, and it has as many parameters and commands as a body may have, those in others counted
abbrev pub IsBody : BodyTree → Type 0
IsBody b =
    IsU32 b.slots × IsList IsValueType most_parameters b.parameters × IfSome b.result IsValueType
    × AreCommands b.commands × (commands_size b.commands ≤ most_commands)

abbrev pub body_of : ℕ → List ValueType → Option ValueType → CommandTrees → BodyTree
body_of slots parameters result commands = record { slots = slots; parameters = parameters; result = result; commands = commands }

-- commands stand in each other less deep than there are commands
unfoldable pub body_at : Reader BodyTree
body_at = done body_of <*> u32_at <*> list_at value_type_at most_parameters <*> option_at value_type_at <*> commands_at most_commands most_commands
