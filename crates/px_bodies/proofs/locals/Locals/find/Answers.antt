use Rattle.std.proofs.Common.{◌∙◌, sym, ap, option_map, slice_get}
use Rattle.std.proofs.lemmas.Option.{slice_get-map}
use Rattle.px_bodies.specs.Places.{local_seen}
use Rattle.px_bodies.proofs.PlaceLemmas.{found-at, found-none, got}
use Rattle.px_bodies.proofs.locals.Locals.find.Goals as goal

pub returns-in_err-place : goal.returns-in_err-place
returns-in_err-place c = ap (option_map local_seen) c.from_residual.ensures ∙ sym (found-none c.args.name.now c.args.self.now.visible (sym c.in_err-place.ensures))

pub returns : goal.returns
returns c =
    ap (option_map local_seen) (c.copied.ensures ∙ got c.deref.result.now c.in_ok-place.place c.get.result c.get.ensures.lookup.0 c.get.ensures.lookup.1 ∙ ap (λ xs. slice_get xs c.in_ok-place.place) c.deref.ensures.value)
    ∙ sym (slice_get-map local_seen c.self.inside.visible.items c.in_ok-place.place)
    ∙ ap (λ s. slice_get s.visible c.in_ok-place.place) c.self.view_is
    ∙ sym (found-at c.args.name.now c.args.self.now.visible c.in_ok-place.place (sym c.in_ok-place.ensures))
