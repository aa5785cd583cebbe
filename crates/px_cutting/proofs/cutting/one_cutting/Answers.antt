use Rattle.px_cutting.proofs.CuttingExact as Exact
use Rattle.px_cutting.proofs.cutting.one_cutting.Goals as goal

pub returns : goal.returns
returns c = Exact.one_cutting
