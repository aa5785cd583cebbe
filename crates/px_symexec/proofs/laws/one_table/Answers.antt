use Rattle.px_symexec.proofs.UniqueLemmas.{one_table}
use Rattle.px_symexec.proofs.laws.one_table.Goals as goal

pub returns : goal.returns
returns c = one_table
