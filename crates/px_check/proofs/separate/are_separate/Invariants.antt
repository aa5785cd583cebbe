use Rattle.std.proofs.Common.{◌↔◌, take, drop}
use Rattle.std.specs.Prelude.{All}
use Rattle.px_terms.specs.Valuations.{valuation_of}
use Rattle.px_terms.specs.Conjuncts.{IsTrueUnder}
use Rattle.px_entry.specs.Constraint.{found_atoms, apart_all, separate}
use Rattle.px_check.proofs.separate.are_separate.Given as goal

-- the blocks that are left say beside the others what all say
abbrev pub invariant-loop-i : goal.invariant-loop-i
invariant-loop-i l =
    All (IsTrueUnder (valuation_of l.values)) (apart_all (found_atoms l.vars (take l.i l.atoms)) (found_atoms l.vars (drop l.i l.atoms)))
    ↔ All (IsTrueUnder (valuation_of l.values)) (separate l.vars l.atoms)
