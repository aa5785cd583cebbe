use Rattle.std.proofs.Common.{[], refl}
use Rattle.px_explore.proofs.TrailLemmas.{all_off}
use Rattle.px_explore.proofs.trail.Trail.clear.Goals as goal

pub take_off-requires : goal.take_off-requires
take_off-requires g c = let (items, on) = c.requires in (items, [], all_off c.args.self.now _ items on, refl)

pub returns-clause-clear : goal.returns-clause-clear
returns-clause-clear g c = let (items, on) = c.requires in (c.take_off.ensures.off items [] (all_off c.args.self.now _ items on) refl).conjuncts
