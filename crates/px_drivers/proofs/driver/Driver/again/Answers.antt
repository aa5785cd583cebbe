use Rattle.px_drivers.specs.Drivers.{counted}
use Rattle.px_drivers.proofs.DriverLemmas.{kept_new}
use Rattle.px_drivers.proofs.driver.Driver.again.Goals as goal

pub invariant_of-result : goal.invariant_of-result
invariant_of-result g c =
    kept_new c.args.number c.args.version (g.K.Link.told c.args.link) (g.K.Link.count c.args.link) c.faults-first.result c.args.past.losses (counted c.args.past.receipts) c.requires.version c.faults-first.ensures c.requires.fresh
