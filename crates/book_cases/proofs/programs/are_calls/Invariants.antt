use Rattle.std.proofs.Common.{◌≡◌, map, drop}
use Rattle.px_core.specs.CommandTree.{command_tree, commands_of}
use Rattle.book_cases.specs.Calls.{are_calls}
use Rattle.book_cases.proofs.programs.are_calls.Given as goal

-- those that are left are calls where all are
abbrev pub invariant-loop-command : goal.invariant-loop-command
invariant-loop-command l =
    are_calls l.names (commands_of (map command_tree (drop l.command-index l.commands))) ≡ are_calls l.names (commands_of (map command_tree l.commands))
