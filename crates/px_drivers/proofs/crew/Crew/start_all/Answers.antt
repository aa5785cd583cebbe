use Rattle.std.proofs.Common.{◌∙◌, arith}
use Rattle.px_drivers.specs.Crews.{standing, in_all}
use Rattle.px_drivers.proofs.CrewLemmas.{account_unadded}
use Rattle.px_drivers.proofs.VersionLemmas.{shared_more}
use Rattle.px_drivers.proofs.crew.Crew.start_all.Goals as goal

pub loop-number-preserved : goal.loop-number-preserved
loop-number-preserved g c = (
  c.hire.ensures.workers ∙ c.loop-number.invariant.0,
  omega arith,
  λ shared. shared_more c.loop-number.self.drivers c.hire.new.self.drivers c.loop-number.number c.hire.result c.hire.ensures.asked c.hire.ensures.left (c.loop-number.invariant.2 shared),
  λ a h. c.hire.ensures.account a
      (account_unadded a (standing (g.S.Spawner.told c.loop-number.spawner) (g.S.Spawner.links c.loop-number.spawner) (g.S.Spawner.count c.loop-number.spawner))
      c.loop-number.self.drivers (in_all c.loop-number.self.receipts) c.loop-number.self.left (c.loop-number.invariant.3 a h)),
)
