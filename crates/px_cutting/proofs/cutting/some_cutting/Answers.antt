use Rattle.px_cutting.proofs.CuttingExact as Exact
use Rattle.px_cutting.proofs.cutting.some_cutting.Goals as goal

pub returns : goal.returns
returns c = Exact.some_cutting
