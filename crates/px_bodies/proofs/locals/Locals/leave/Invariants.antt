use Rattle.std.proofs.Common.{◌≡◌, length}
use Rattle.px_bodies.specs.Locals.{after_scope}
use Rattle.px_bodies.proofs.locals.Locals.leave.Given as goal

abbrev pub invariant-loop-self : goal.invariant-loop-self
invariant-loop-self l = after_scope l.outer l.self ≡ after_scope l.outer l.initial.self

abbrev pub decreases-loop-self : goal.decreases-loop-self
decreases-loop-self l = length l.self.visible
