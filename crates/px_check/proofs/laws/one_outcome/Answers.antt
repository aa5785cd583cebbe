use Rattle.px_check.proofs.OneOutcomeLemmas as lemmas
use Rattle.px_check.proofs.laws.one_outcome.Goals as goal

pub returns : goal.returns
returns c = lemmas.one_outcome
