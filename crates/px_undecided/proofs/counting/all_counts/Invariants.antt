use Rattle.px_undecided.proofs.CountLists.{LacksFrom}
use Rattle.px_undecided.proofs.counting.all_counts.Given as goal

abbrev pub invariant-loop-i : goal.invariant-loop-i
invariant-loop-i l = LacksFrom l.conflicts l.procedures l.parts l.i l.all.items
