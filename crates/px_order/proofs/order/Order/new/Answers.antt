use Rattle.std.proofs.Common.{refl, ap}
use Rattle.std.specs.Prelude.{reverse}
use Rattle.px_order.proofs.Holding.{none_ruled_out}
use Rattle.px_order.proofs.order.Order.new.Goals as goal

pub returns : goal.returns
returns c = (refl, (ap reverse c.new-2.ensures.items, c.new.ensures), none_ruled_out)
