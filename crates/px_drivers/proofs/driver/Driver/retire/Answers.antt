use Rattle.std.proofs.Common.{subst}
use Rattle.px_drivers.specs.Drivers.{DriverParts, IsKept}
use Rattle.px_drivers.proofs.driver.Driver.retire.Goals as goal

pub returns-clause-kept : goal.returns-clause-kept
returns-clause-kept g c = subst (λ (d : DriverParts). IsKept d) c.self.view_is c.self.invariant
