use Rattle.std.proofs.Common.{◌∙◌, ap, ap₂}
use Rattle.std.specs.Option.{option_flatten}
use Rattle.px_bodies.specs.Places.{last_place}
use Rattle.px_bodies.proofs.locals.Locals.place.Goals as goal

pub returns : goal.returns
returns c =
    c.flatten.ensures ∙ ap option_flatten (c.copied.ensures ∙ c.get.ensures.value) ∙ c.self.invariant.0 c.as_slice.result.now
    ∙ ap₂ (λ n s. last_place 0 n s.visible) c.as_slice.ensures c.self.view_is
