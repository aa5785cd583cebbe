use Rattle.px_real_scopes.proofs.CellLaws.{cells_agree}
use Rattle.px_real_scopes.proofs.laws.cells_agree.Goals as goal

pub returns : goal.returns
returns c = cells_agree
