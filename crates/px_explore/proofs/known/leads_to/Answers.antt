use Rattle.std.proofs.Common.{refl, inl}
use Rattle.px_explore.proofs.known.leads_to.Goals as goal

pub returns-in-Some : goal.returns-in-Some
returns-in-Some c = (record { met = c.in-Some.ensures; same = inl refl }, refl)
