use Rattle.std.proofs.Common.{◌≡◌, sym, subst, ap, arith, ◌+◌}
use Rattle.px_pool.specs.Starts.{TellsAlike}
use Rattle.px_drivers.specs.Drivers.{DriverParts, counted, published}
use Rattle.px_drivers.specs.Crews.{standing}
use Rattle.px_drivers.proofs.CrewLemmas.{hired, not_hired, published_last}
use Rattle.px_drivers.proofs.VersionLemmas.{joins}
use Rattle.px_drivers.proofs.crew.Crew.hire.Goals as goal

pub returns-in-Ok-clause-published : goal.returns-in-Ok-clause-published
returns-in-Ok-clause-published g c =
    let is : published c.again.result ≡ counted c.args.past.receipts + 0 = ap published c.again.ensures in
    published_last c.again.result c.args.self.now.drivers c.join.new.self.drivers c.args.self.now.receipts c.join.new.self.receipts (counted c.args.past.receipts)
    c.join.ensures.drivers c.join.ensures.receipts (omega arith)

pub returns-in-Ok-clause-account : goal.returns-in-Ok-clause-account
returns-in-Ok-clause-account g c =
    hired (standing (g.S.Spawner.told c.args.spawner.now) (g.S.Spawner.links c.args.spawner.now) (g.S.Spawner.count c.args.spawner.now))
    (standing (g.S.Spawner.told c.start.new.self) (g.S.Spawner.links c.start.new.self) (g.S.Spawner.count c.start.new.self))
    c.again.result c.args.self.now.drivers c.join.new.self.drivers c.args.self.now.receipts c.join.new.self.receipts c.args.self.now.left c.join.new.self.left
    (counted c.args.past.receipts) c.args.past.losses c.join.ensures.drivers c.join.ensures.receipts c.join.ensures.left
    (ap (λ (x : DriverParts). x.losses) c.again.ensures) (ap (λ (x : DriverParts). x.earlier) c.again.ensures)
    c.in-Ok.ensures.running c.in-Ok.ensures.cause.unfailed c.in-Ok.ensures.started
    (subst (λ (x : DriverParts). TellsAlike (g.S.Spawner.told c.start.new.self) x.told) (sym c.again.ensures) c.in-Ok.ensures.alike)

pub returns-in-Err-clause-account : goal.returns-in-Err-clause-account
returns-in-Err-clause-account g c =
    not_hired (standing (g.S.Spawner.told c.args.spawner.now) (g.S.Spawner.links c.args.spawner.now) (g.S.Spawner.count c.args.spawner.now))
    (standing (g.S.Spawner.told c.start.new.self) (g.S.Spawner.links c.start.new.self) (g.S.Spawner.count c.start.new.self))
    c.args.self.now.drivers c.leave.new.self.drivers c.args.self.now.receipts c.leave.new.self.receipts c.args.self.now.left c.leave.new.self.left
    (counted c.args.past.receipts) c.args.past.losses c.args.number c.leave.ensures.drivers c.leave.ensures.receipts c.leave.ensures.left c.requires.losses
    c.in-Err.ensures.same c.in-Err.ensures.cause.never_falls c.in-Err.ensures.cause.failed c.in-Err.ensures.unstarted

pub returns-in-Ok-clause-asked : goal.returns-in-Ok-clause-asked
returns-in-Ok-clause-asked g c started =
    joins c.again.result c.args.self.now.drivers c.join.new.self.drivers c.args.number c.args.version c.join.ensures.drivers
    (ap (λ (x : DriverParts). x.number) c.again.ensures) (ap (λ (x : DriverParts). x.version) c.again.ensures)
