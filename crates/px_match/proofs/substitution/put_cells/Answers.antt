use Rattle.std.proofs.Common.{◌++◌}
use Rattle.px_callgraph.specs.Renaming.{stand_cells}
use Rattle.px_match.proofs.StandLemmas.{all_stand}
use Rattle.px_match.proofs.substitution.put_cells.Goals as goal

pub returns-then-i-ours : goal.returns-then-i-ours
returns-then-i-ours c =
    let a = c.args in
    all_stand c.loop-i.substitution.items (a.substitution.now.items ++ stand_cells a.theirs.now a.ours.now) c.loop-i.i a.theirs.now a.ours.now c.if-i-ours.true c.loop-i.invariant
