use Rattle.px_coverage.proofs.Tables.{tables_cover}
use Rattle.px_coverage.proofs.laws.tables_cover.Goals as goal

pub returns : goal.returns
returns c = tables_cover
