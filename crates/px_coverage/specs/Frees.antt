-- The blocks that a body frees are of types of the program.
use Rattle.std.specs.Prelude.{List, IsSome, slice_get, ⊤}
use Rattle.px_terms.specs.declared.types.BlockType.{BlockType}
use Rattle.px_core.specs.CommandTree.{CommandTree, CommandTrees, choose, loop, free, no_commands, a_command}

-- each `free` in the command names one of these block types
abbrev mutual
  pub FreesKnown : List BlockType → CommandTree → Type 0
  FreesKnown types (choose slot first second) = FreeKnown types first × FreeKnown types second
  FreesKnown types (loop site head body step) = FreeKnown types head × FreeKnown types body × FreeKnown types step
  FreesKnown types (free at block site) = IsSome (slice_get types block.0)
  FreesKnown types _ = ⊤

  pub FreeKnown : List BlockType → CommandTrees → Type 0
  FreeKnown types no_commands = ⊤
  FreeKnown types (a_command c rest) = FreesKnown types c × FreeKnown types rest
