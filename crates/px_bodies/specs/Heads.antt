-- What stands between the parentheses of a `for`, as plain data.
use Rattle.std.specs.Prelude.{map, option_map}
use Rattle.px_syntax.specs.TypedViews.{typed_statement, typed_condition}
use Rattle.px_bodies.specs.declared.statements.Head.{Head as Kept}
use Rattle.px_bodies.specs.Locals.{Locals}
use Rattle.px_bodies.specs.Statements.{Head}

abbrev pub head_seen : Kept → Locals → Head
head_seen h after = record { trees = map typed_statement h.first.items; after = after; test = option_map (λ b. typed_condition b.value) h.test; step = typed_statement h.step.value }
