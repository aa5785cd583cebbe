use Rattle.std.proofs.Common.{refl, arith, ap, sym, ◌∙◌}
use Rattle.px_drivers.specs.declared.ends.Leaving.TheVariants.{Losses, NoMemory}
use Rattle.px_drivers.specs.Drivers.{DriverParts, counted, published, version_after}
use Rattle.px_drivers.specs.Crews.{standing}
use Rattle.px_drivers.proofs.CrewLemmas.{joined_last, left_otherwise, retired, published_last}
use Rattle.px_drivers.proofs.VersionLemmas.{next_is_known, goes_on_ready, goes_not, goes_on_again}
use Rattle.px_drivers.proofs.crew.Crew.go_on.Goals as goal

pub returns-in-Ready-clause-published : goal.returns-in-Ready-clause-published
returns-in-Ready-clause-published g c =
    published_last c.args.driver c.args.self.now.drivers c.join.new.self.drivers c.args.self.now.receipts c.join.new.self.receipts (published c.args.driver)
    c.join.ensures.drivers c.join.ensures.receipts refl

pub returns-in-Ready-clause-account : goal.returns-in-Ready-clause-account
returns-in-Ready-clause-account g c =
    joined_last (standing (g.S.Spawner.told c.args.spawner.now) (g.S.Spawner.links c.args.spawner.now) (g.S.Spawner.count c.args.spawner.now))
    c.args.driver c.args.self.now.drivers c.join.new.self.drivers c.args.self.now.receipts c.join.new.self.receipts c.args.self.now.left c.join.new.self.left
    c.join.ensures.drivers c.join.ensures.receipts c.join.ensures.left

pub returns-in-NoMemory-clause-account : goal.returns-in-NoMemory-clause-account
returns-in-NoMemory-clause-account g c a h =
    left_otherwise (standing (g.S.Spawner.told c.end-past.new.spawner) (g.S.Spawner.links c.end-past.new.spawner) (g.S.Spawner.count c.end-past.new.spawner))
    c.args.self.now.drivers c.leave.new.self.drivers c.args.self.now.receipts c.leave.new.self.receipts c.args.self.now.left c.leave.new.self.left
    (counted c.end-past.result.receipts) c.end-past.result.losses _ NoMemory c.leave.ensures.drivers c.leave.ensures.receipts c.leave.ensures.left refl (omega arith) (omega arith) a
    (retired (standing (g.S.Spawner.told c.args.spawner.now) (g.S.Spawner.links c.args.spawner.now) (g.S.Spawner.count c.args.spawner.now))
    (standing (g.S.Spawner.told c.end-past.new.spawner) (g.S.Spawner.links c.end-past.new.spawner) (g.S.Spawner.count c.end-past.new.spawner))
    c.args.driver c.args.self.now.drivers c.args.self.now.receipts c.args.self.now.left (counted c.end-past.result.receipts) c.end-past.result.losses
    c.end-past.ensures.kept c.end-past.ensures.fewer c.end-past.ensures.count c.end-past.ensures.given c.end-past.ensures.losses c.end-past.ensures.receipts a h)

pub returns-then-past-eq-MOST_LOSSES-clause-account : goal.returns-then-past-eq-MOST_LOSSES-clause-account
returns-then-past-eq-MOST_LOSSES-clause-account g c a h =
    left_otherwise (standing (g.S.Spawner.told c.end-past-in-Lost.new.spawner) (g.S.Spawner.links c.end-past-in-Lost.new.spawner) (g.S.Spawner.count c.end-past-in-Lost.new.spawner))
    c.args.self.now.drivers c.leave-then-past-eq-MOST_LOSSES.new.self.drivers c.args.self.now.receipts c.leave-then-past-eq-MOST_LOSSES.new.self.receipts c.args.self.now.left c.leave-then-past-eq-MOST_LOSSES.new.self.left
    (counted c.end-past-in-Lost.result.receipts) c.end-past-in-Lost.result.losses _ Losses c.leave-then-past-eq-MOST_LOSSES.ensures.drivers c.leave-then-past-eq-MOST_LOSSES.ensures.receipts c.leave-then-past-eq-MOST_LOSSES.ensures.left refl (omega arith) (omega arith) a
    (retired (standing (g.S.Spawner.told c.args.spawner.now) (g.S.Spawner.links c.args.spawner.now) (g.S.Spawner.count c.args.spawner.now))
    (standing (g.S.Spawner.told c.end-past-in-Lost.new.spawner) (g.S.Spawner.links c.end-past-in-Lost.new.spawner) (g.S.Spawner.count c.end-past-in-Lost.new.spawner))
    c.args.driver c.args.self.now.drivers c.args.self.now.receipts c.args.self.now.left (counted c.end-past-in-Lost.result.receipts) c.end-past-in-Lost.result.losses
    c.end-past-in-Lost.ensures.kept c.end-past-in-Lost.ensures.fewer c.end-past-in-Lost.ensures.count c.end-past-in-Lost.ensures.given c.end-past-in-Lost.ensures.losses c.end-past-in-Lost.ensures.receipts a h)

pub returns-else-past-eq-MOST_LOSSES-clause-account : goal.returns-else-past-eq-MOST_LOSSES-clause-account
returns-else-past-eq-MOST_LOSSES-clause-account g c a h =
    c.hire.ensures.account a
    (retired (standing (g.S.Spawner.told c.args.spawner.now) (g.S.Spawner.links c.args.spawner.now) (g.S.Spawner.count c.args.spawner.now))
    (standing (g.S.Spawner.told c.end-past-in-Lost.new.spawner) (g.S.Spawner.links c.end-past-in-Lost.new.spawner) (g.S.Spawner.count c.end-past-in-Lost.new.spawner))
    c.args.driver c.args.self.now.drivers c.args.self.now.receipts c.args.self.now.left (counted c.end-past-in-Lost.result.receipts) c.end-past-in-Lost.result.losses
    c.end-past-in-Lost.ensures.kept c.end-past-in-Lost.ensures.fewer c.end-past-in-Lost.ensures.count c.end-past-in-Lost.ensures.given c.end-past-in-Lost.ensures.losses c.end-past-in-Lost.ensures.receipts a h)

-- ---- the version

pub returns-in-Ready-clause-versions : goal.returns-in-Ready-clause-versions
returns-in-Ready-clause-versions g c =
    goes_on_ready c.args.driver c.args.self.now.drivers c.join.new.self.drivers (sym c.state-2.ensures ∙ c.in-Ready.is) c.join.ensures.drivers

pub returns-in-NoMemory-clause-versions : goal.returns-in-NoMemory-clause-versions
returns-in-NoMemory-clause-versions g c = goes_not c.args.driver c.args.self.now.drivers c.leave.new.self.drivers c.leave.ensures.drivers

pub returns-then-past-eq-MOST_LOSSES-clause-versions : goal.returns-then-past-eq-MOST_LOSSES-clause-versions
returns-then-past-eq-MOST_LOSSES-clause-versions g c =
    goes_not c.args.driver c.args.self.now.drivers c.leave-then-past-eq-MOST_LOSSES.new.self.drivers c.leave-then-past-eq-MOST_LOSSES.ensures.drivers

pub hire-requires-clause-version : goal.hire-requires-clause-version
hire-requires-clause-version g c κs bounds =
    next_is_known c.args.driver.version c.next_version-version.result c.args.driver.state
    (c.next_version-version.ensures ∙ ap (λ v. version_after v c.state.result) (ap (λ (d : DriverParts). d.version) c.driver.view_is) ∙ ap (λ s. version_after c.args.driver.version s) c.state.ensures)
    c.end-past-in-Lost.ensures.kept.version

pub returns-else-past-eq-MOST_LOSSES-clause-versions : goal.returns-else-past-eq-MOST_LOSSES-clause-versions
returns-else-past-eq-MOST_LOSSES-clause-versions g c =
    goes_on_again c.args.driver c.args.self.now.drivers c.hire.new.self.drivers c.hire.result c.driver.inside.number c.next_version-version.result (ap (λ (d : DriverParts). d.number) c.driver.view_is)
    (c.next_version-version.ensures ∙ ap (λ v. version_after v c.state.result) (ap (λ (d : DriverParts). d.version) c.driver.view_is) ∙ ap (λ s. version_after c.args.driver.version s) c.state.ensures)
    c.hire.ensures.asked c.hire.ensures.left
