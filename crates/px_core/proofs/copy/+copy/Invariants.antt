use Rattle.std.proofs.Common.{◌≡◌, map, take}
use Rattle.px_core.specs.CommandTree.{command_tree}
use Rattle.px_core.proofs.copy.+copy.Given as goal

abbrev pub invariant-copy_commands-loop-command : goal.invariant-copy_commands-loop-command
invariant-copy_commands-loop-command l = map command_tree l.copy.items ≡ map command_tree (take l.command-index l.commands)
