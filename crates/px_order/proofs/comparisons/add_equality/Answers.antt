use Rattle.px_order.proofs.Reading.{equal_none, equal_added}
use Rattle.px_order.proofs.comparisons.add_equality.Goals as goal

pub returns-in_default : goal.returns-in_default
returns-in_default c = equal_none c.args.p.now c.args.comparisons.now.items c.in_default.ensures

pub returns : goal.returns
returns c =
    rw (c.in_ok-push-2.ensures.items, c.in_ok-push.ensures.items)
    (equal_added c.args.p.now c.args.comparisons.now.items c.in-Some.x c.in-Some.y c.in-Some.ensures)
