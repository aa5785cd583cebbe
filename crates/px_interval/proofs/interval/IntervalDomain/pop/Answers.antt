use Rattle.std.proofs.Common.{◌-◌, subst, sym}
use Rattle.px_interval.specs.Held.{HoldsBeyond}
use Rattle.px_interval.proofs.Holding.{held_popped}
use Rattle.px_interval.proofs.interval.IntervalDomain.pop.Goals as goal

pub returns-clause-popped : goal.returns-clause-popped
returns-clause-popped c = λ d cs h.
    let s = c.args.self.now in
    subst (λ ks. HoldsBeyond s.beyond (s.count - 1) ks cs) (sym c.pop.ensures) (held_popped s.beyond c.if-self-gt0.false s.count s.kept d cs h)
