use Rattle.std.specs.Prelude.{◌≡◌, ◌+◌}
use Rattle.px_drivers.specs.Crews.{Standing, standing, AreShared, IsAccount}
use Rattle.px_drivers.proofs.crew.Crew.start_all.Given as goal

abbrev pub invariant-loop-number : goal.invariant-loop-number
invariant-loop-number g l =
    (l.self.workers ≡ l.initial.self.workers) × (l.self.room + l.number ≡ l.initial.self.room)
    × (AreShared l.initial.self.drivers → AreShared l.self.drivers)
    × ((a : Standing) → IsAccount a (standing (g.S.Spawner.told l.initial.spawner) (g.S.Spawner.links l.initial.spawner) (g.S.Spawner.count l.initial.spawner)) l.initial.self → IsAccount a (standing (g.S.Spawner.told l.spawner) (g.S.Spawner.links l.spawner) (g.S.Spawner.count l.spawner)) l.self)
