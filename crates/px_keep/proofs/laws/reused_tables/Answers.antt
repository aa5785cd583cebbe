use Rattle.px_keep.proofs.ReusedLemmas.{reused_tables}
use Rattle.px_keep.proofs.laws.reused_tables.Goals as goal

pub returns : goal.returns
returns c = reused_tables
