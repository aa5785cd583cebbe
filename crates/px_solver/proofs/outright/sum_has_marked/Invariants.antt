use Rattle.std.proofs.Common.{map, take}
use Rattle.std.specs.Prelude.{All, flat_map}
use Rattle.px_terms.specs.Terms.{Term}
use Rattle.px_terms.specs.Monomials.{term_of}
use Rattle.px_solver.specs.Tables.{IsMarked}
use Rattle.px_solver.proofs.outright.sum_has_marked.Given as goal

abbrev pub invariant-loop-m : goal.invariant-loop-m
invariant-loop-m l = All (λ x. ¬ IsMarked l.marks x) (flat_map (λ (t : Term). t.vars) (map term_of (take l.m-index l.m-items)))
