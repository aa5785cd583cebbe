use Rattle.std.proofs.Common.{[], arith}
use Rattle.px_worker.proofs.ClearLemmas.{one_more, not_all, all_there}
use Rattle.px_worker.proofs.owed.are_clear.Goals as goal

pub returns-then-not-is_clear : goal.returns-then-not-is_clear
returns-then-not-is_clear g c =
    not_all (λ b. (goal.Domain-dyn g (b.vtable, b.value)).holds b.value []) c.args.domains.now c.loop-i.i c.index-domains-i.result c.is_clear.result c.loop-i-test.true c.index-domains-i.is c.is_clear.ensures
    c.if-not-is_clear.true

pub loop-i-preserved : goal.loop-i-preserved
loop-i-preserved g c =
    one_more (λ b. (goal.Domain-dyn g (b.vtable, b.value)).holds b.value []) c.args.domains.now c.loop-i.i c.index-domains-i.result c.is_clear.result c.loop-i-test.true c.index-domains-i.is c.is_clear.ensures
    c.if-not-is_clear.false c.loop-i.invariant

pub returns : goal.returns
returns g c = all_there (λ b. (goal.Domain-dyn g (b.vtable, b.value)).holds b.value []) c.args.domains.now c.loop-i.i (omega (arith, c.loop-i-test.false)) c.loop-i.invariant
