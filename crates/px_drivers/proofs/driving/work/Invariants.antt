use Rattle.std.specs.Prelude.{◌≡◌}
use Rattle.px_drivers.specs.declared.driver.DriverState.TheVariants.{Ready}
use Rattle.px_drivers.specs.Drivers.{GoesOn}
use Rattle.px_drivers.proofs.driving.work.Given as goal

abbrev pub invariant-loop : goal.invariant-loop
invariant-loop g l = (l.driver.state ≡ Ready) × GoesOn l.initial.driver l.driver
