use Rattle.std.proofs.Common.{arith}
use Rattle.px_real_items.proofs.EndLemmas.{passed_none, passed_more}
use Rattle.px_real_items.proofs.ends.passed.Goals as goal

pub returns-then-closed-eq0 : goal.returns-then-closed-eq0
returns-then-closed-eq0 c = passed_none c.args.closed c.if-closed-eq0.true

pub returns : goal.returns
returns c = passed_more c.args.closed (λ z. absurd (omega (arith, z, c.if-closed-eq0.false)))
