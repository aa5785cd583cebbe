use Rattle.px_terms.proofs.WordLaws.{words_are_ring}
use Rattle.px_terms.proofs.laws.words_are_ring.Goals as goal

pub returns : goal.returns
returns c = words_are_ring
