use Rattle.std.proofs.Common.{◌≡◌, drop}
use Rattle.px_walks.specs.Items.{trees}
use Rattle.px_walks.specs.NoCalls.{have_no_call}
use Rattle.px_walks.proofs.calls.+calls.Given as goal

-- no call stands in those that are left where none stands in all
abbrev pub invariant-have_no_call-loop-command : goal.invariant-have_no_call-loop-command
invariant-have_no_call-loop-command l = have_no_call (trees (drop l.command-index l.commands)) ≡ have_no_call (trees l.commands)
