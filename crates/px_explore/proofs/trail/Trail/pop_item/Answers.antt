use Rattle.std.proofs.Common.{ap, subst, ◌++◌, ◌∷◌, [], ◌∙◌, refl}
use Rattle.std.specs.Prelude.{All}
use Rattle.px_solver.specs.Pushed.{pushed_conjuncts}
use Rattle.px_explore.proofs.TrailLemmas.{last_conjunct, off_alone, off_everywhere}
use Rattle.px_explore.proofs.trail.Trail.pop_item.Goals as goal

pub pop-requires-in-Some-Everywhere-clause-domains : goal.pop-requires-in-Some-Everywhere-clause-domains
pop-requires-in-Some-Everywhere-clause-domains g c =
    let (i, items, on) = c.requires in
    let last = c.in-Some-Everywhere.ensures.items ∙ ap (λ z. c.pop.new.self.items ++ z ∷ []) c.in-Some-Everywhere.field-0-is in
    let k = last_conjunct c.args.self.now items i c.pop.new.self.items last on.stacked in
    (k.conjunct, pushed_conjuncts items, subst (λ z. All (λ b. (goal.Domain-dyn g (b.vtable, b.value)).holds b.value (pushed_conjuncts (z ∷ items))) c.args.domains.now.items) k.is on.conjuncts)

pub returns-in-Some-Everywhere-clause-popped : goal.returns-in-Some-Everywhere-clause-popped
returns-in-Some-Everywhere-clause-popped g c =
    let last = c.in-Some-Everywhere.ensures.items ∙ ap (λ z. c.pop.new.self.items ++ z ∷ []) c.in-Some-Everywhere.field-0-is in
    off_everywhere c.args.self.now _ _ _ c.pop.new.self.items last refl c.pop-in-Some-Everywhere.ensures.popped c.pop-in-Some-Everywhere.ensures.everywhere

pub returns-in-Some-Alone-clause-popped : goal.returns-in-Some-Alone-clause-popped
returns-in-Some-Alone-clause-popped g c =
    let last = c.in-Some-Alone.ensures.items ∙ ap (λ z. c.pop.new.self.items ++ z ∷ []) c.in-Some-Alone.field-0-is in
    off_alone c.args.self.now _ _ _ c.pop.new.self.items last refl c.pop-in-Some-Alone.ensures (λ cs h. h)
