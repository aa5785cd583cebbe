-- The numbers of block types and of callees that stand in a body.
use Rattle.std.specs.Prelude.{ℕ, ◌<◌, IfSome, ⊤}
use Rattle.std.specs.List.{AllByRecursion}
use Rattle.px_core.specs.CommandTree.{CommandTree, CommandTrees, assign, unset, read, test, choose, loop, leave, load, store, malloc, free, input, call, return, break, continue, stop, divide, no_commands, a_command}
use Rattle.px_core.specs.BodyTree.{BodyTree}
use Rattle.px_programs.specs.Numbers.{IsValueListed}

-- so many functions have names, and so many block types are listed
module _ (names types : ℕ) where
  -- each callee has a name, and each block type is listed
  abbrev mutual
    pub IsCommandListed : CommandTree → Type 0
    IsCommandListed (assign to op a b) = ⊤
    IsCommandListed (unset to) = ⊤
    IsCommandListed (read slot site) = ⊤
    IsCommandListed (test to how a b site) = ⊤
    IsCommandListed (choose slot first second) = AreCommandsListed first × AreCommandsListed second
    IsCommandListed (loop site head body step) = AreCommandsListed head × AreCommandsListed body × AreCommandsListed step
    IsCommandListed leave = ⊤
    IsCommandListed (load to at field block site) = block.0 < types
    IsCommandListed (store at field block from site) = block.0 < types
    IsCommandListed (malloc to block site) = block.0 < types
    IsCommandListed (free at block site) = block.0 < types
    IsCommandListed (input to site) = ⊤
    IsCommandListed (call to proc arguments site) = proc.0 < names
    IsCommandListed (return from) = ⊤
    IsCommandListed break = ⊤
    IsCommandListed continue = ⊤
    IsCommandListed (stop word site) = ⊤
    IsCommandListed (divide to a b site) = ⊤

    pub AreCommandsListed : CommandTrees → Type 0
    AreCommandsListed no_commands = ⊤
    AreCommandsListed (a_command c rest) = IsCommandListed c × AreCommandsListed rest

  -- in a body's commands, and in the types of its parameters and its result
  pub record IsBodyListed (b : BodyTree) : Type 0 where
    pub parameters : AllByRecursion (IsValueListed types) b.parameters
    pub result : IfSome b.result (IsValueListed types)
    pub commands : AreCommandsListed b.commands
