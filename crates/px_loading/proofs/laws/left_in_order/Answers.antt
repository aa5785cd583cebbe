use Rattle.px_loading.proofs.ItemOrder.{left_ordered}
use Rattle.px_loading.proofs.laws.left_in_order.Goals as goal

pub returns : goal.returns
returns c = left_ordered
