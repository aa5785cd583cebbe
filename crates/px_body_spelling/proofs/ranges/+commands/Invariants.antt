use Rattle.std.proofs.Common.{map, drop}
use Rattle.std.specs.Prelude.{◌↔◌}
use Rattle.px_core.specs.CommandTree.{command_tree, commands_of}
use Rattle.px_body_spelling.specs.Commands.{AreCommands}
use Rattle.px_body_spelling.proofs.ranges.+commands.Given as goal

-- those that are left are in range where all are
abbrev pub invariant-are_commands_in_range-loop-command : goal.invariant-are_commands_in_range-loop-command
invariant-are_commands_in_range-loop-command l =
    AreCommands (commands_of (map command_tree (drop l.command-index l.commands))) ↔ AreCommands (commands_of (map command_tree l.commands))
