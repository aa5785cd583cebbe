use Rattle.std.proofs.Common.{◌≡◌, map, take}
use Rattle.px_plain.specs.Forest.{parent_at}
use Rattle.px_solver.proofs.components.homes_of.Given as goal

abbrev pub invariant-loop-first : goal.invariant-loop-first
invariant-loop-first l = l.homes.items ≡ map (parent_at l.joined) (take l.first-index l.firsts)
