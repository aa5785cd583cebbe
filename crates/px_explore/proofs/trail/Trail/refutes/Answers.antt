use Rattle.std.proofs.Common.{◌≡◌, ◌∷◌, true, subst}
use Rattle.std.specs.Prelude.{◌↔◌}
use Rattle.px_plain.specs.Held.{OfConj, held_vars, held_conjuncts}
use Rattle.px_solver.specs.Decisions.{IsRefuted}
use Rattle.px_explore.proofs.trail.Trail.refutes.Goals as goal

pub pop_item-requires : goal.pop_item-requires
pop_item-requires g c = let (items, on, v, w, n) = c.requires in (OfConj c.args.conjunct.now, items, c.in_ok-push_conjunct.ensures.pushed items on)

pub returns-clause-answer : goal.returns-clause-answer
returns-clause-answer g c = λ items on.
    let all = OfConj c.args.conjunct.now ∷ items in
    subst (λ kinds. (c.is_refuted-refuted.result ≡ true) ↔ IsRefuted (held_vars items) (held_conjuncts all) kinds) c.in_ok-push_conjunct.ensures.kinds (c.is_refuted-refuted.ensures all (c.in_ok-push_conjunct.ensures.pushed items on))

pub returns-clause-on : goal.returns-clause-on
returns-clause-on g c = λ items on. c.pop_item.ensures.popped (OfConj c.args.conjunct.now) items (c.in_ok-push_conjunct.ensures.pushed items on)
