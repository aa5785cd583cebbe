use Rattle.std.proofs.Common.{◌≡◌, take}
use Rattle.std.specs.Prelude.{flat_map}
use Rattle.px_terms.specs.Variables.{mentioned}
use Rattle.px_cnf.proofs.names.names_of.Given as goal

abbrev pub invariant-loop-i : goal.invariant-loop-i
invariant-loop-i l = l.names.items ≡ flat_map mentioned (take l.i l.conjuncts)
