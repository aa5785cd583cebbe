use Rattle.px_walks.proofs.Controls.{jumped}
use Rattle.px_walks.proofs.control.take_part.Goals as goal

pub loop-piece-preserved : goal.loop-piece-preserved
loop-piece-preserved c = jumped _ c.loop-piece.control.items c.pop.new.self.items c.in-Some.piece c.in_default-piece.field-0 c.loop-piece.invariant c.in-Some.ensures.items c.in_default-piece.is
