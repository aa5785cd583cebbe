use Rattle.std.proofs.Common.{◌≡◌, ℕ, ◌<◌, length, get_or, false, sym, ap, subst, ◌∙◌}
use Rattle.std.specs.Prelude.{All, IfOk}
use Rattle.px_solver.specs.Tables.{AreApart, HasFailed, places_of}
use Rattle.px_solver.proofs.PlaceLemmas.{places_inside, places_apart}
use Rattle.px_solver.proofs.solving.solve_home.Goals as goal

pub solve-requires-clause-places : goal.solve-requires-clause-places
solve-requires-clause-places c =
    let n = length c.args.conjuncts.now in
    subst (All (λ i. i < n)) (sym (c.deref-3.ensures.value ∙ c.in_ok-indexes.ensures ∙ ap (places_of c.args.home) c.deref.ensures.value))
    (places_inside c.args.home n c.args.layout.now.homes.items c.requires.layout.size)

pub solve-requires-clause-members : goal.solve-requires-clause-members
solve-requires-clause-members c =
    let n = length c.args.table.now in
    subst (All (λ i. i < n)) (sym (c.deref-4.ensures.value ∙ c.in_ok-members.ensures ∙ ap (places_of c.args.home) c.deref-2.ensures.value))
    (places_inside c.args.home n c.args.layout.now.node_homes.items c.requires.layout.node_size)

pub solve-requires-clause-apart : goal.solve-requires-clause-apart
solve-requires-clause-apart c =
    subst AreApart (sym (c.deref-4.ensures.value ∙ c.in_ok-members.ensures ∙ ap (places_of c.args.home) c.deref-2.ensures.value))
    (places_apart c.args.home c.args.layout.now.node_homes.items)

pub returns-clause-no : goal.returns-clause-no
returns-clause-no c =
    let t = c.args.table.now in
    let cs = c.args.conjuncts.now in
    let base = λ (v : ℕ). get_or c.args.roots.now v 0 in
    subst (λ z. IfOk c.solve.result (λ r. r ≡ false → HasFailed t cs z base (places_of c.args.home c.args.layout.now.node_homes.items)))
    (c.deref-3.ensures.value ∙ c.in_ok-indexes.ensures ∙ ap (places_of c.args.home) c.deref.ensures.value)
    (subst (λ z. IfOk c.solve.result (λ r. r ≡ false → HasFailed t cs c.deref-3.result.now base z))
    (c.deref-4.ensures.value ∙ c.in_ok-members.ensures ∙ ap (places_of c.args.home) c.deref-2.ensures.value)
    c.solve.ensures.no)
