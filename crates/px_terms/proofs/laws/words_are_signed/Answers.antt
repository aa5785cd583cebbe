use Rattle.px_terms.proofs.WordLaws.{words_are_signed}
use Rattle.px_terms.proofs.laws.words_are_signed.Goals as goal

pub returns : goal.returns
returns c = words_are_signed
