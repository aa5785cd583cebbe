-- Bodies that only call.
use Rattle.std.specs.Prelude.{◌&&◌, ℕ, Bool, true, false, nat_lt}
use Rattle.px_core.specs.declared.body.Body.{Body}
use Rattle.px_core.specs.CommandTree.{CommandTree, CommandTrees, call, no_commands, a_command}
use Rattle.px_core.specs.BodyTree.{body_tree}

-- a call of a procedure whose number is below the number of names
abbrev pub is_call : ℕ → CommandTree → Bool
is_call names (call to proc arguments site) = nat_lt proc.0 names
is_call names _ = false

-- each is such a call
abbrev pub are_calls : ℕ → CommandTrees → Bool
are_calls names no_commands = true
are_calls names (a_command c rest) = is_call names c && are_calls names rest

-- each command of the body is such a call
abbrev pub is_body_of_calls : ℕ → Body → Bool
is_body_of_calls names body = are_calls names (body_tree body).commands
