use Rattle.px_terms.proofs.Tests.{never_both}
use Rattle.px_solver.specs.contracts.held.some_refuted.{dyn-1-ghosts}
use Rattle.px_solver.proofs.EachDomain.{first_of, rest_of, by_the_rest}
use Rattle.px_solver.proofs.held.+some_refuted.Goals as goal

pub returns-else-is_refuted_by : goal.returns-else-is_refuted_by
returns-else-is_refuted_by g t c = λ cs all.
    let e = c.in-Some.ensures.cases.0 in
    let one = first_of (λ b. ((dyn-1-ghosts g.dyn-1).0.entry b.vtable).1.holds b.value cs) _ c.in-Some.first.now c.in-Some.rest.now e all in
    let others = rest_of (λ b. ((dyn-1-ghosts g.dyn-1).0.entry b.vtable).1.holds b.value cs) _ c.in-Some.first.now c.in-Some.rest.now e all in
    by_the_rest (λ b. ((dyn-1-ghosts g.dyn-1).0.entry b.vtable).1.number b.value) cs _ c.in-Some.first.now c.in-Some.rest.now c.some_refuted.result e
    (λ r. never_both c.is_refuted_by.result ((c.is_refuted_by.ensures cs one).1 r) c.if-is_refuted_by.false) (c.some_refuted.ensures cs others)
