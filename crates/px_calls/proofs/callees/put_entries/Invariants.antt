use Rattle.std.proofs.Common.{◌≡◌, ◌++◌, drop}
use Rattle.px_callgraph.specs.Calls.{entry_ways}
use Rattle.px_calls.proofs.callees.put_entries.Given as goal

abbrev pub invariant-loop-i : goal.invariant-loop-i
invariant-loop-i l = l.found.items ++ entry_ways l.i (drop l.i l.entries) ≡ l.fn.found.items ++ entry_ways 0 l.entries
