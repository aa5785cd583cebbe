use Rattle.std.proofs.Common.{◌≡◌, ◌+◌, ◌∷◌, length, arith}
use Rattle.px_solver.specs.contracts.held.pop_each.{dyn-1-ghosts}
use Rattle.px_solver.proofs.EachDomain.{first_of, rest_of, each_then}
use Rattle.px_solver.proofs.held.+pop_each.Goals as goal

pub pop_from-requires : goal.pop_from-requires
pop_from-requires g t c =
    let (d, cs, all) = c.requires in
    (d, cs, first_of (λ b. ((dyn-1-ghosts g.dyn-1).0.entry b.vtable).1.holds b.value (d ∷ cs)) _ c.in-Some.first.now c.in-Some.rest.now c.in-Some.ensures.cases.0 all)

pub pop_each-requires : goal.pop_each-requires
pop_each-requires g t c =
    let (d, cs, all) = c.requires in
    let shorter : length c.in-Some.rest.now + 1 ≡ length c.args.domains.now = c.in-Some.ensures.cases.1 in
    (omega arith, (d, cs, rest_of (λ b. ((dyn-1-ghosts g.dyn-1).0.entry b.vtable).1.holds b.value (d ∷ cs)) _ c.in-Some.first.now c.in-Some.rest.now c.in-Some.ensures.cases.0 all))

pub returns-clause-popped : goal.returns-clause-popped
returns-clause-popped g t c = λ d cs.
    each_then (λ b. ((dyn-1-ghosts g.dyn-1).0.entry b.vtable).1.holds b.value (d ∷ cs)) (λ b. ((dyn-1-ghosts g.dyn-1).0.entry b.vtable).1.holds b.value cs) _ c.in-Some.first.now c.in-Some.rest.now _ _ c.in-Some.ensures.cases.0
    (c.pop_from.ensures.popped d cs) (c.pop_each.ensures.popped d cs)
