use Rattle.std.proofs.Common.{sym, ◌∙◌}
use Rattle.px_real_cutting.proofs.ItemsExact.{joined_all}
use Rattle.px_real_cutting.proofs.cutting.joined.Goals as goal

pub returns : goal.returns
returns c = joined_all c.args.pieces.now c.loop-rest.rest.now c.loop-rest.items.items c.loop-rest.invariant (sym c.is_empty.ensures ∙ c.loop-rest-test.false)
