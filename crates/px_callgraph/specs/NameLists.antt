-- The procedures that commands call, each as often as it is called.
use Rattle.std.specs.Prelude.{ℕ, List, [], ◌∷◌, ◌++◌}
use Rattle.px_core.specs.CommandTree.{CommandTree, CommandTrees, choose, loop, call, no_commands, a_command}

abbrev mutual
  pub names_of : CommandTree → List ℕ
  names_of (choose slot first second) = names_in first ++ names_in second
  names_of (loop site head body step) = names_in head ++ (names_in body ++ names_in step)
  names_of (call to proc arguments site) = proc.0 ∷ []
  names_of _ = []

  pub names_in : CommandTrees → List ℕ
  names_in no_commands = []
  names_in (a_command c rest) = names_of c ++ names_in rest
