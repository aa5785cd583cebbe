-- What the code has, as plain data.
use Rattle.std.specs.Prelude.{map}
use Rattle.px_syntax.specs.TypedViews.{typed_expression, typed_place}
use Rattle.px_real_effects.specs.declared.targets.Target.{Target as Found}
use Rattle.px_real_effects.specs.declared.targets.Target.TheVariants as F
use Rattle.px_real_effects.specs.declared.targets.Elsewhere.{Elsewhere}
use Rattle.px_real_effects.specs.declared.targets.Elsewhere.TheVariants as E
use Rattle.px_real_effects.specs.Targets.{Target, a_place, an_access, away, nowhere}

abbrev pub elsewhere_seen : Elsewhere → Target
elsewhere_seen (E.Access pointer block site) = an_access (typed_expression pointer) block site
elsewhere_seen (E.Away parts) = away (map typed_expression parts.items)
elsewhere_seen (E.Nowhere value) = nowhere (typed_expression value)

abbrev pub target_seen : Found → Target
target_seen (F.Place kind place) = a_place kind (typed_place place)
target_seen (F.Other at) = elsewhere_seen at
