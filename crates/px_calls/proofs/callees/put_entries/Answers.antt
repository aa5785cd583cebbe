use Rattle.std.proofs.Common.{◌++◌}
use Rattle.px_callgraph.specs.Calls.{entry_ways}
use Rattle.px_calls.proofs.CalleeLemmas.{next_entry}
use Rattle.px_calls.proofs.callees.put_entries.Goals as goal

pub loop-i-preserved : goal.loop-i-preserved
loop-i-preserved c =
    let a = c.args in
    next_entry a.entries.now c.loop-i.i c.loop-i.found.items c.put_entry.new.found.items (a.found.now.items ++ entry_ways 0 a.entries.now) c.loop-i-test.true c.in_ok-put_entry.ensures c.loop-i.invariant
