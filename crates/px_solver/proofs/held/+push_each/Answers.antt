use Rattle.std.proofs.Common.{◌≡◌, ◌+◌, ◌∷◌, length, arith}
use Rattle.px_terms.proofs.Outcomes.{err_any}
use Rattle.px_solver.proofs.EachDomain.{first_of, rest_of, each_then}
use Rattle.px_solver.specs.contracts.held.push_each.{dyn-1-ghosts}
use Rattle.px_solver.proofs.held.+push_each.Goals as goal

pub returns-in_err-push_on-clause-failed : goal.returns-in_err-push_on-clause-failed
returns-in_err-push_on-clause-failed g t c = err_any c.from_residual.result (λ cs.
    each_then (λ b. ((dyn-1-ghosts g.dyn-1).0.entry b.vtable).1.holds b.value cs) (λ b. ((dyn-1-ghosts g.dyn-1).0.entry b.vtable).1.holds b.value cs) _ c.in-Some.first.now c.in-Some.rest.now _ _ c.in-Some.ensures.cases.0
    (c.in_err-push_on.ensures.failed cs) (λ h. h))

pub push_each-requires : goal.push_each-requires
push_each-requires g t c =
    let (cs, all, few) = c.requires.few in
    let shorter : length c.in-Some.rest.now + 1 ≡ length c.args.domains.now = c.in-Some.ensures.cases.1 in
    (omega arith, ((cs, rest_of (λ b. ((dyn-1-ghosts g.dyn-1).0.entry b.vtable).1.holds b.value cs) _ c.in-Some.first.now c.in-Some.rest.now c.in-Some.ensures.cases.0 all, few), c.requires.variables))

pub pop_from-requires : goal.pop_from-requires
pop_from-requires g t c =
    let (cs, all, few) = c.requires.few in
    (c.args.conjunct.now, cs, c.in_ok-push_on.ensures.pushed cs (first_of (λ b. ((dyn-1-ghosts g.dyn-1).0.entry b.vtable).1.holds b.value cs) _ c.in-Some.first.now c.in-Some.rest.now c.in-Some.ensures.cases.0 all))

pub returns-in-Err-clause-failed : goal.returns-in-Err-clause-failed
returns-in-Err-clause-failed g t c = λ cs.
    each_then (λ b. ((dyn-1-ghosts g.dyn-1).0.entry b.vtable).1.holds b.value cs) (λ b. ((dyn-1-ghosts g.dyn-1).0.entry b.vtable).1.holds b.value cs) _ c.in-Some.first.now c.in-Some.rest.now _ _ c.in-Some.ensures.cases.0
    (λ h. c.pop_from.ensures.popped c.args.conjunct.now cs (c.in_ok-push_on.ensures.pushed cs h)) (c.in-Err.ensures.failed cs)

pub returns-clause-pushed : goal.returns-clause-pushed
returns-clause-pushed g t c = λ cs.
    each_then (λ b. ((dyn-1-ghosts g.dyn-1).0.entry b.vtable).1.holds b.value cs) (λ b. ((dyn-1-ghosts g.dyn-1).0.entry b.vtable).1.holds b.value (c.args.conjunct.now ∷ cs)) _ c.in-Some.first.now c.in-Some.rest.now _ _ c.in-Some.ensures.cases.0
    (c.in_ok-push_on.ensures.pushed cs) (c.in_default-push_each.ensures.pushed cs)
