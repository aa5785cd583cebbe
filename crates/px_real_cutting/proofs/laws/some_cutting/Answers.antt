use Rattle.px_real_cutting.proofs.ItemsExact as Exact
use Rattle.px_real_cutting.proofs.laws.some_cutting.Goals as goal

pub returns : goal.returns
returns c = Exact.some_cutting
