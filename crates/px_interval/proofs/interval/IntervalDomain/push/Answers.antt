use Rattle.std.proofs.Common.{arith, sym, ◌∙◌}
use Rattle.px_interval.proofs.Holding.{held_count, held_more, held_unbounded}
use Rattle.px_interval.proofs.interval.IntervalDomain.push.Goals as goal

pub overflow_add-self : goal.overflow_add-self
overflow_add-self c =
    let s = c.args.self.now in
    let (cs, h, l) = c.requires.few in
    let k = held_count s.count s.kept s.beyond cs h in
    omega arith

pub returns-then-self-gt0-clause-pushed : goal.returns-then-self-gt0-clause-pushed
returns-then-self-gt0-clause-pushed c = λ cs h. let s = c.args.self.now in held_more s.count s.kept s.beyond c.args.conjunct.now cs c.if-self-gt0.true h

pub returns-in_default-clause-pushed : goal.returns-in_default-clause-pushed
returns-in_default-clause-pushed c = λ cs h.
    let s = c.args.self.now in
    held_unbounded s.beyond c.if-self-gt0.false s.count s.kept c.args.conjunct.now cs (sym c.bound_of.ensures ∙ c.in_default.is) h
