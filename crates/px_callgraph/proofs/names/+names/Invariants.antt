use Rattle.std.proofs.Common.{◌≡◌, ◌++◌, map, drop}
use Rattle.px_core.specs.CommandTree.{command_tree, commands_of}
use Rattle.px_callgraph.specs.NameLists.{names_in}
use Rattle.px_callgraph.proofs.names.+names.Given as goal

-- what stands there and what is left are all
abbrev pub invariant-add_names-loop-command : goal.invariant-add_names-loop-command
invariant-add_names-loop-command l =
    l.names.items ++ names_in (commands_of (map command_tree (drop l.command-index l.commands)))
    ≡ l.initial.names.items ++ names_in (commands_of (map command_tree l.commands))
