use Rattle.px_drivers.proofs.DriverLemmas.{lost_stays}
use Rattle.px_drivers.proofs.driving.drive.Goals as goal

pub returns-in-Lost : goal.returns-in-Lost
returns-in-Lost g c = lost_stays c.args.driver.now
