use Rattle.std.proofs.Common.{◌≡◌, take}
use Rattle.std.specs.Prelude.{fold, flat_map}
use Rattle.px_solver.specs.Candidates.{quotients_of}
use Rattle.px_solver.specs.Tables.{fixed_under, picked, put_few}
use Rattle.px_solver.proofs.candidates.put_all_quotients.Given as goal

abbrev pub invariant-loop-i : goal.invariant-loop-i
invariant-loop-i l = l.values.items ≡ fold put_few l.initial.values.items (flat_map (quotients_of (fixed_under l.table)) (picked l.conjuncts (take l.i l.indexes)))
