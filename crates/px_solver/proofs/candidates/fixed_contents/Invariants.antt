use Rattle.std.proofs.Common.{◌≡◌, take, map}
use Rattle.std.specs.Prelude.{flat_map}
use Rattle.px_terms.specs.Terms.{Term}
use Rattle.px_terms.specs.Monomials.{term_of}
use Rattle.px_solver.specs.Candidates.{fixed_contents}
use Rattle.px_solver.specs.Tables.{fixed_under}
use Rattle.px_solver.proofs.candidates.fixed_contents.Given as goal

abbrev pub invariant-loop-m : goal.invariant-loop-m
invariant-loop-m l = l.with.items ≡ fixed_contents (fixed_under l.table) (flat_map (λ (t : Term). t.vars) (map term_of (take l.m-index l.m-items)))
