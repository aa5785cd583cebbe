use Rattle.px_cutting.proofs.StandAlone as Proof
use Rattle.px_cutting.proofs.shapes.items_stand_alone.Goals as goal

pub returns : goal.returns
returns c = Proof.items_stand_alone
