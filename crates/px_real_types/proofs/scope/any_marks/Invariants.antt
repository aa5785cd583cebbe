use Rattle.std.proofs.Common.{◌≡◌, ◌-◌, take, drop, length}
use Rattle.px_real_symbols.specs.Symbols.{held_in}
use Rattle.px_real_types.specs.Scopes.{texts, any_marks}
use Rattle.px_real_types.proofs.scope.any_marks.Given as goal

abbrev pub invariant-loop-at : goal.invariant-loop-at
invariant-loop-at l = any_marks l.mark (take (l.held.after - l.at) (drop l.at (texts l.on))) ≡ any_marks l.mark (held_in (texts l.on) l.held)

abbrev pub decreases-loop-at : goal.decreases-loop-at
decreases-loop-at l = length l.on.tokens.now - l.at
