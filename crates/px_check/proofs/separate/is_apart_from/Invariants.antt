use Rattle.std.proofs.Common.{◌↔◌, drop}
use Rattle.std.specs.Prelude.{All}
use Rattle.px_terms.specs.Valuations.{valuation_of}
use Rattle.px_terms.specs.Conjuncts.{IsTrueUnder}
use Rattle.px_entry.specs.Constraint.{found_atoms}
use Rattle.px_check.specs.Values.{apart_from_each}
use Rattle.px_check.proofs.separate.is_apart_from.Given as goal

-- the blocks that are left say what all say
abbrev pub invariant-loop-i : goal.invariant-loop-i
invariant-loop-i l =
    All (IsTrueUnder (valuation_of l.values)) (apart_from_each l.atom (found_atoms l.vars (drop l.i l.earlier)))
    ↔ All (IsTrueUnder (valuation_of l.values)) (apart_from_each l.atom (found_atoms l.vars l.earlier))
