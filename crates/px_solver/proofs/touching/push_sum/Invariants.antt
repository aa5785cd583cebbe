use Rattle.std.proofs.Common.{◌≡◌, ◌++◌, take, map}
use Rattle.std.specs.Prelude.{flat_map}
use Rattle.px_terms.specs.Terms.{Term}
use Rattle.px_terms.specs.Monomials.{term_of}
use Rattle.px_solver.specs.Tables.{roots_of}
use Rattle.px_solver.proofs.touching.push_sum.Given as goal

abbrev pub invariant-loop-m : goal.invariant-loop-m
invariant-loop-m l = l.out.items ≡ l.initial.out.items ++ roots_of l.table (flat_map (λ (t : Term). t.vars) (map term_of (take l.m-index l.m-items)))
