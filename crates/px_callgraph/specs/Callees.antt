-- What bodies call, and which procedures are in one recursion component.
use Rattle.std.specs.Prelude.{◌≡◌, ℕ, ◌⊎◌, Option, IsSomeAnd}
use Rattle.px_core.specs.CommandTree.{CommandTree, CommandTrees, choose, loop, call, no_commands, a_command}
use Rattle.px_core.specs.BodyTree.{BodyTree}

-- the name stands in a `Call`
abbrev mutual
  pub Names : ℕ → CommandTree → Type 0
  Names f (choose slot first second) = NamedIn f first ⊎ NamedIn f second
  Names f (loop site head body step) = NamedIn f head ⊎ (NamedIn f body ⊎ NamedIn f step)
  Names f (call to proc arguments site) = proc.0 ≡ f
  Names f _ = ⊥

  pub NamedIn : ℕ → CommandTrees → Type 0
  NamedIn f no_commands = ⊥
  NamedIn f (a_command c rest) = Names f c ⊎ NamedIn f rest

-- a callee of a procedure, where bodies are given; one without a body calls nobody
abbrev pub IsCallee : (ℕ → Option BodyTree) → ℕ → ℕ → Type 0
IsCallee bodies f g = IsSomeAnd (bodies f) (λ b. NamedIn g b.commands)

-- by one call or more
pub data Reaches (bodies : ℕ → Option BodyTree) : ℕ → ℕ → Type 0 where
  by_call : {f g : ℕ} → IsCallee bodies f g → Reaches bodies f g
  by_calls : {f g h : ℕ} → IsCallee bodies f g → Reaches bodies g h → Reaches bodies f h

-- one recursion component: each reaches the other; a procedure is in one with itself where it calls itself, directly or through others
abbrev pub AreTogether : (ℕ → Option BodyTree) → ℕ → ℕ → Type 0
AreTogether bodies f g = Reaches bodies f g × Reaches bodies g f
