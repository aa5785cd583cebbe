use Rattle.std.proofs.Common.{◌≡◌, ◌∙◌, sym, ap, subst, Some, cond, length, rules}
use Rattle.std.specs.Prelude.{bytes_eq}
use Rattle.std.specs.Map.{lookup}
use Rattle.px_bodies.specs.Places.{last_place, IsKept}
use Rattle.px_bodies.proofs.PlaceLemmas.{kept-add}
use Rattle.px_bodies.proofs.locals.Locals.add.Goals as goal

pub invariant_of-self-in-Ok : goal.invariant_of-self-in-Ok
invariant_of-self-in-Ok c =
    subst (IsKept c.insert.new.self.entries) (sym c.in_ok-push.ensures.items)
    (kept-add c.self.inside.table.entries c.insert.new.self.entries c.self.inside.visible.items c.args.local c.self.invariant
    (c.requires ∙ ap (λ s. last_place 0 c.args.local.name.now s.visible) (sym c.self.view_is))
    (λ q. c.in-Ok.ensures.updates.0 (record { ref_ptr = (0, 0); now = q })
    ∙ ap (λ n. cond (bytes_eq c.args.local.name.now q) (Some (Some n)) (lookup (λ k. bytes_eq q k.now) c.self.inside.table.entries)) (let e : c.len-place.result ≡ length c.self.inside.visible.items = search rules in e)))
