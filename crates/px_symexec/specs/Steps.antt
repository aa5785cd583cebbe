-- Commands whose alternatives aren't those of one step.
use Rattle.std.specs.Prelude.{Bool, true, false}
use Rattle.px_core.specs.CommandTree.{CommandTree, loop, call}

abbrev pub is_call : CommandTree → Bool
is_call (call to proc arguments site) = true
is_call _ = false

abbrev pub is_loop : CommandTree → Bool
is_loop (loop site head body step) = true
is_loop _ = false
