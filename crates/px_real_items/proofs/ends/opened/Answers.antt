use Rattle.std.proofs.Common.{arith}
use Rattle.px_real_items.proofs.EndLemmas.{opened_none, opened_one, opened_more}
use Rattle.px_real_items.proofs.ends.opened.Goals as goal

pub returns-then-closed-eq0 : goal.returns-then-closed-eq0
returns-then-closed-eq0 c = opened_none c.args.closed c.if-closed-eq0.true

pub returns-then-closed-eq1 : goal.returns-then-closed-eq1
returns-then-closed-eq1 c = opened_one c.args.closed c.if-closed-eq1.true

pub returns : goal.returns
returns c = opened_more c.args.closed (λ z. absurd (omega (arith, z, c.if-closed-eq0.false))) (λ z. absurd (omega (arith, z, c.if-closed-eq1.false)))
