use Rattle.px_symexec.proofs.LiveLemmas.{refuted_stays_out}
use Rattle.px_symexec.proofs.laws.refuted_stays_out.Goals as goal

pub returns : goal.returns
returns c = refuted_stays_out
