use Rattle.std.specs.Prelude.{◌≡◌, ◌≤◌, length}
use Rattle.px_drivers.specs.Crews.{Standing, standing, IsAccount}
use Rattle.px_drivers.proofs.VersionLemmas.{AreTurning}
use Rattle.px_drivers.proofs.crew.Crew.start_again.Given as goal

abbrev pub invariant-loop-done : goal.invariant-loop-done
invariant-loop-done g l =
    (l.self.workers ≡ l.initial.self.workers) × (length l.self.drivers ≤ g.S.Spawner.links l.spawner)
    × AreTurning l.initial.self.drivers l.self.drivers l.done
    × ((a : Standing) → IsAccount a (standing (g.S.Spawner.told l.initial.spawner) (g.S.Spawner.links l.initial.spawner) (g.S.Spawner.count l.initial.spawner)) l.initial.self → IsAccount a (standing (g.S.Spawner.told l.spawner) (g.S.Spawner.links l.spawner) (g.S.Spawner.count l.spawner)) l.self)
