use Rattle.px_interval.proofs.Holding.{held_clear}
use Rattle.px_interval.proofs.interval.IntervalDomain.is_clear.Goals as goal

pub returns-then-self-eq0 : goal.returns-then-self-eq0
returns-then-self-eq0 c =
    let s = c.args.self.now in
    let k = held_clear s.beyond c.if-self-gt0.false s.count s.kept c.if-self-eq0.true in
    (λ e. k.0 (c.is_empty.ensures.0 e), λ h. c.is_empty.ensures.1 (k.1 h))
