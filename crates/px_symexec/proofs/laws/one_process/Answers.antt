use Rattle.px_symexec.proofs.OneLemmas.{one_process}
use Rattle.px_symexec.proofs.laws.one_process.Goals as goal

pub returns : goal.returns
returns c = one_process
