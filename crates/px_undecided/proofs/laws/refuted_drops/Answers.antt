use Rattle.px_undecided.proofs.RefutedLemmas.{drops_refuted}
use Rattle.px_undecided.proofs.laws.refuted_drops.Goals as goal

pub returns : goal.returns
returns c = drops_refuted
