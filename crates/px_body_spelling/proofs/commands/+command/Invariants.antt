use Rattle.std.proofs.Common.{◌≡◌, ◌-◌, ◌+◌, ◌*◌, map}
use Rattle.px_core.specs.CommandTree.{command_tree, commands_of}
use Rattle.px_core.specs.Sizes.{commands_size}
use Rattle.px_body_spelling.specs.Commands.{command_at, row_at}
use Rattle.px_body_spelling.proofs.CommandLoops.{with_front}
use Rattle.px_body_spelling.proofs.commands.+command.Given as goal

abbrev pub decreases-read_command : goal.decreases-read_command
decreases-read_command l = 5 * l.depth + 1

abbrev pub decreases-read_row : goal.decreases-read_row
decreases-read_row l = 5 * l.depth + 2

abbrev pub decreases-read_commands : goal.decreases-read_commands
decreases-read_commands l = 5 * l.depth + 3

abbrev pub decreases-read_if : goal.decreases-read_if
decreases-read_if l = 5 * l.depth + 4

abbrev pub decreases-read_loop : goal.decreases-read_loop
decreases-read_loop l = 5 * l.depth + 4

abbrev pub decreases-read_one : goal.decreases-read_one
decreases-read_one l = 5 * l.depth

-- what was read and what is still read are all
abbrev pub invariant-read_row-loop : goal.invariant-read_row-loop
invariant-read_row-loop l = record {
  reads : with_front (map command_tree l.commands.items) (row_at (command_at l.depth) (l.count - l.counter) l.left l.rest) ≡ row_at (command_at l.depth) l.count l.room l.bytes;
  room : l.left ≡ l.room - commands_size (commands_of (map command_tree l.commands.items));
}
