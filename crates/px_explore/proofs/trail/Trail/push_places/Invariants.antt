use Rattle.std.proofs.Common.{◌≡◌, ℕ, List, [], ◌++◌, drop}
use Rattle.px_explore.specs.Trails.{Stacks, found_places}
use Rattle.px_explore.proofs.trail.Trail.push_places.Given as goal

-- the places of those up to this number were put on
abbrev pub invariant-loop-n : goal.invariant-loop-n
invariant-loop-n l = (done : List ℕ) × Stacks l.fn.self l.self [] done × (done ++ found_places l.vars (drop l.n l.atoms) ≡ found_places l.vars (drop l.from l.atoms))
