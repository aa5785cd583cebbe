use Rattle.std.proofs.Common.{ap}
use Rattle.px_drivers.specs.Crews.{CrewParts}
use Rattle.px_drivers.proofs.VersionLemmas.{first_goes, no_first}
use Rattle.px_drivers.proofs.crew.Crew.first_goes_on.Goals as goal

pub returns-in-Some-clause-versions : goal.returns-in-Some-clause-versions
returns-in-Some-clause-versions g c =
    first_goes c.in-Some.driver c.args.self.now.drivers c.first.new.self.drivers c.go_on.new.self.drivers c.in-Some.ensures.some.0 c.go_on.ensures.versions

pub returns-in-None-clause-versions : goal.returns-in-None-clause-versions
returns-in-None-clause-versions g c =
    no_first c.args.self.now.drivers c.first.new.self.drivers c.in-None.ensures.none.1 (ap (λ (x : CrewParts). x.drivers) c.in-None.ensures.none.0)
