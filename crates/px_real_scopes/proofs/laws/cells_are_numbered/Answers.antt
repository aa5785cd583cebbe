use Rattle.px_real_scopes.proofs.CellLaws.{cells_are_numbered}
use Rattle.px_real_scopes.proofs.laws.cells_are_numbered.Goals as goal

pub returns : goal.returns
returns c = cells_are_numbered
