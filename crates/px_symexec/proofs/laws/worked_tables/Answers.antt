use Rattle.px_symexec.proofs.WorkedTableLemmas.{worked_tables}
use Rattle.px_symexec.proofs.laws.worked_tables.Goals as goal

pub returns : goal.returns
returns c = worked_tables
