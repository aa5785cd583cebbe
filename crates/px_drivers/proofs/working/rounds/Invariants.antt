use Rattle.std.specs.Prelude.{◌≡◌}
use Rattle.px_drivers.specs.Crews.{standing, IsAccount}
use Rattle.px_drivers.proofs.working.rounds.Given as goal

abbrev pub invariant-loop : goal.invariant-loop
invariant-loop g l =
    (l.crew.workers ≡ l.fn.workers)
    × IsAccount (standing (g.S.Spawner.told l.fn.spawner) (g.S.Spawner.links l.fn.spawner) (g.S.Spawner.count l.fn.spawner)) (standing (g.S.Spawner.told l.spawner) (g.S.Spawner.links l.spawner) (g.S.Spawner.count l.spawner)) l.crew
