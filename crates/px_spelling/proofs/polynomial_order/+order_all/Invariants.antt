use Rattle.std.proofs.Common.{length}
use Rattle.px_spelling.proofs.polynomial_order.+order_all.Given as goal

abbrev pub decreases-order_all : goal.decreases-order_all
decreases-order_all l = length l.a.now
