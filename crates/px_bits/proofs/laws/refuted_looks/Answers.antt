use Rattle.px_bits.proofs.AmongLemmas.{refuted_looks}
use Rattle.px_bits.proofs.laws.refuted_looks.Goals as goal

pub returns : goal.returns
returns c = refuted_looks
