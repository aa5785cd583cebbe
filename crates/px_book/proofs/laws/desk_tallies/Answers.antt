use Rattle.px_book.proofs.TallyLemmas.{tallies}
use Rattle.px_book.proofs.laws.desk_tallies.Goals as goal

pub returns : goal.returns
returns c = tallies
