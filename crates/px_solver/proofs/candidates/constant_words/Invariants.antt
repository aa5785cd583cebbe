use Rattle.std.proofs.Common.{◌≡◌, [], ◌++◌, take}
use Rattle.std.specs.Prelude.{fold, flat_map}
use Rattle.px_solver.specs.Candidates.{end_words, around, constants_of}
use Rattle.px_solver.specs.Tables.{picked, put_few}
use Rattle.px_solver.proofs.candidates.constant_words.Given as goal

abbrev pub invariant-loop-i : goal.invariant-loop-i
invariant-loop-i l = l.values.items ≡ fold put_few [] (end_words ++ flat_map around (flat_map constants_of (picked l.conjuncts (take l.i l.indexes))))
