-- How many commands there are, those that stand in others counted.
use Rattle.std.specs.Prelude.{ℕ, ◌+◌}
use Rattle.px_core.specs.CommandTree.{CommandTree, CommandTrees, choose, loop, no_commands, a_command}

abbrev mutual
  pub command_size : CommandTree → ℕ
  command_size (choose slot first second) = 1 + (commands_size first + commands_size second)
  command_size (loop site head body step) = 1 + (commands_size head + commands_size body + commands_size step)
  command_size _ = 1

  pub commands_size : CommandTrees → ℕ
  commands_size no_commands = 0
  commands_size (a_command c rest) = command_size c + commands_size rest
