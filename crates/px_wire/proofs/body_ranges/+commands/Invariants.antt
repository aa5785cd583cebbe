use Rattle.std.proofs.Common.{◌≡◌, map, drop}
use Rattle.px_core.specs.CommandTree.{command_tree, commands_of}
use Rattle.px_wire.specs.BodyRanges.{commands_within}
use Rattle.px_wire.proofs.body_ranges.+commands.Given as goal

-- what is left is within where all is
abbrev pub invariant-are_commands_within-loop-command : goal.invariant-are_commands_within-loop-command
invariant-are_commands_within-loop-command l =
    commands_within l.slots l.types (commands_of (map command_tree (drop l.command-index l.commands))) ≡ commands_within l.slots l.types (commands_of (map command_tree l.commands))
