use Rattle.std.proofs.Common.{◌≡◌, ◌∙◌, ◌++◌, ◌∷◌, ◌-◌, [], sym, ap, subst, List, Some, length, take, slice_get, rules}
use Rattle.px_bodies.specs.declared.locals.Declared.{Declared}
use Rattle.px_bodies.specs.Places.{IsKept}
use Rattle.px_bodies.proofs.PlaceLemmas.{kept-drop, last-is}
use Rattle.px_bodies.proofs.locals.Locals.drop_last.Goals as goal

pub invariant_of-self-in-Some : goal.invariant_of-self-in-Some
invariant_of-self-in-Some c =
    let items : List Declared = c.self.inside.visible.items in
    let at : slice_get items (length items - 1) ≡ Some c.in-Some.last =
    ap (λ xs. slice_get xs (length xs - 1)) (sym c.deref.ensures.value) ∙ sym c.last.ensures.value ∙ sym c.in-Some.ensures in
    let parts : items ≡ take (length items - 1) items ++ c.in-Some.last ∷ [] = last-is items c.in-Some.last at in
    let left : c.pop.new.self.items ≡ take (length items - 1) items = c.pop.ensures.rest ∙ (let e : take (c.self.inside.visible.len - 1) items ≡ take (length items - 1) items = search rules in e) in
    subst (IsKept c.insert.new.self.entries) (sym left)
    (kept-drop c.self.inside.table.entries c.insert.new.self.entries (take (length items - 1) items) c.in-Some.last (subst (IsKept c.self.inside.table.entries) parts c.self.invariant)
    (λ q. c.in_ok-insert.ensures.updates.0 (record { ref_ptr = (0, 0); now = q })))
