use Rattle.px_meaning.proofs.Fullers.{fuller_meanings}
use Rattle.px_meaning.proofs.laws.fuller_meanings.Goals as goal

pub returns : goal.returns
returns g c = fuller_meanings g.F.Fuller.rest
