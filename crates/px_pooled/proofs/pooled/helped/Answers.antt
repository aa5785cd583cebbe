use Rattle.std.proofs.Common.{◌<◌, ap, map, subst, arith}
use Rattle.px_syntax.specs.ProgramTree.{program_tree}
use Rattle.px_pooled.specs.Making.{ArePartsOf}
use Rattle.px_pooled.proofs.EndLemmas.{by_own_limits, by_helpers}
use Rattle.px_pooled.proofs.pooled.helped.Goals as goal

pub with_workers-requires-clause-own : goal.with_workers-requires-clause-own
with_workers-requires-clause-own g c κs within =
    let a = c.args in
    let P = program_tree a.program.now in
    (P, by_own_limits P a.limits _ a.own.now a.own.now c.requires.own c.requires.own)

pub with_workers-requires-clause-same : goal.with_workers-requires-clause-same
with_workers-requires-clause-same g c κs within =
    let a = c.args in
    let P = program_tree a.program.now in
    let kinds = ap (map (λ b. (goal.Domain-dyn g (b.vtable, b.value)).number b.value)) c.deref.ensures.value in
    (P, by_own_limits P a.limits _ a.own.now c.in_ok-parts.parts c.requires.own (subst (λ ks. ArePartsOf P a.limits ks c.in_ok-parts.parts) kinds c.in_ok-parts.ensures))

pub returns-clause-found : goal.returns-clause-found
returns-clause-found g c =
    let a = c.args in
    let none = c.if-pool-eq0.false in
    let some : 0 < a.pool.now.workers = omega (arith, none) in
    by_helpers c.with_workers.result a.pool.now.workers g.S.Link.Word.Honesty.says (program_tree a.program.now) a.limits _ a.own.now some c.requires.own c.with_workers.ensures.found
