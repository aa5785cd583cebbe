use Rattle.px_coverage.proofs.Fullers.{cuts_are_honest}
use Rattle.px_coverage.proofs.laws.cuts_are_honest.Goals as goal

pub returns : goal.returns
returns g c = cuts_are_honest g.F.Fuller.rest
