use Rattle.px_meaning.proofs.WorkedOnCuts.{cuts}
use Rattle.px_meaning.proofs.laws.worked_cuts.Goals as goal

pub returns : goal.returns
returns c = cuts
