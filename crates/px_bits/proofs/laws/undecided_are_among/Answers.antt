use Rattle.px_bits.proofs.AmongLemmas.{undecided_are_among}
use Rattle.px_bits.proofs.laws.undecided_are_among.Goals as goal

pub returns : goal.returns
returns c = undecided_are_among
