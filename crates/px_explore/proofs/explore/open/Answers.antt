use Rattle.std.proofs.Common.{refl, inl}
use Rattle.px_explore.proofs.explore.open.Goals as goal

pub returns : goal.returns
returns c = inl (_, refl, refl, refl, c.in_ok-push.ensures.items)
