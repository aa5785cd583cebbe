use Rattle.std.specs.Prelude.{◌≡◌, ◌≤◌, ℕ, length}
use Rattle.px_drivers.specs.Crews.{Standing, standing, in_all, all_published, IsAccountWith}
use Rattle.px_drivers.proofs.crew.Crew.finish.Given as goal

abbrev pub invariant-loop-driver : goal.invariant-loop-driver
invariant-loop-driver g l =
    (l.crew.workers ≡ l.initial.crew.workers) × (length l.crew.drivers ≤ g.S.Spawner.links l.spawner) × (all_published l.crew ≡ all_published l.initial.crew)
    × ((a : Standing) (most : ℕ) → IsAccountWith a (standing (g.S.Spawner.told l.initial.spawner) (g.S.Spawner.links l.initial.spawner) (g.S.Spawner.count l.initial.spawner)) l.initial.crew.drivers (in_all l.initial.crew.receipts) l.initial.crew.left 0 most →
    IsAccountWith a (standing (g.S.Spawner.told l.spawner) (g.S.Spawner.links l.spawner) (g.S.Spawner.count l.spawner)) l.crew.drivers (in_all l.crew.receipts) l.crew.left 0 most)

abbrev pub decreases-loop-driver : goal.decreases-loop-driver
decreases-loop-driver g l = length l.crew.drivers
