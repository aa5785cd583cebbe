use Rattle.std.proofs.Common.{◌≡◌, ◌+◌, ◌*◌, ◌++◌, map, drop}
use Rattle.px_core.specs.CommandTree.{command_tree, commands_of}
use Rattle.px_core.specs.Sizes.{command_size, commands_size}
use Rattle.px_body_spelling.specs.Commands.{row_bytes, commands_bytes}
use Rattle.px_body_spelling.proofs.write.+write.Given as goal

-- with the commands that are left, all is written
abbrev pub invariant-write_commands-loop-command : goal.invariant-write_commands-loop-command
invariant-write_commands-loop-command g l = record {
  written : g.O.Output.written l.out ++ row_bytes (commands_of (map command_tree (drop l.command-index l.commands))) ≡ g.O.Output.written l.fn.out ++ commands_bytes (commands_of (map command_tree l.commands));
  reached : (from : _) → g.O.Output.reaches from l.fn.out l.fn.target → g.O.Output.reaches from l.out l.target;
}

-- the commands, those that stand in others counted
abbrev pub decreases-write_commands : goal.decreases-write_commands
decreases-write_commands g l = 2 * commands_size (commands_of (map command_tree l.commands.now)) + 1

abbrev pub decreases-write_command : goal.decreases-write_command
decreases-write_command g l = 2 * command_size (command_tree l.command.now)
