use Rattle.std.proofs.Common.{◌≡◌, ◌≤◌, min, map, drop, ◌+◌}
use Rattle.px_core.specs.CommandTree.{command_tree, commands_of}
use Rattle.px_core.specs.Sizes.{commands_size}
use Rattle.px_core.proofs.count.+size.Given as goal

-- what was counted and what is left are all
abbrev pub invariant-size_of_commands-loop-command : goal.invariant-size_of_commands-loop-command
invariant-size_of_commands-loop-command l = record {
  in_range : l.count ≤ 18446744073709551615;
  all :
      min (l.count + commands_size (commands_of (map command_tree (drop l.command-index l.commands)))) 18446744073709551615
      ≡ min (commands_size (commands_of (map command_tree l.commands))) 18446744073709551615;
}
