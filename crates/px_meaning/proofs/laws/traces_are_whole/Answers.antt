use Rattle.px_meaning.proofs.RenamedRuns.{traces_whole}
use Rattle.px_meaning.proofs.laws.traces_are_whole.Goals as goal

pub returns : goal.returns
returns c = λ P f parameters arguments heap state s t more d e m n h h' eq. traces_whole P f parameters arguments heap state s t more d e m n h h' eq
