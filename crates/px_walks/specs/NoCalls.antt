-- Bodies that call no procedure.
use Rattle.std.specs.Prelude.{◌&&◌, Bool, true, false}
use Rattle.px_core.specs.CommandTree.{CommandTree, CommandTrees, choose, loop, call, no_commands, a_command}

-- no call stands in a command, nor in those that stand in it
abbrev mutual
  pub has_no_call : CommandTree → Bool
  has_no_call (choose slot first second) = have_no_call first && have_no_call second
  has_no_call (loop site head body step) = have_no_call head && have_no_call body && have_no_call step
  has_no_call (call to proc arguments site) = false
  has_no_call _ = true

  pub have_no_call : CommandTrees → Bool
  have_no_call no_commands = true
  have_no_call (a_command c rest) = has_no_call c && have_no_call rest
