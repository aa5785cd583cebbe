use Rattle.std.proofs.Common.{◌∙◌, sym, ap}
use Rattle.px_syntax.specs.TypedViews.{typed_expression}
use Rattle.px_syntax.proofs.TypedEquations.{typed-Call}
use Rattle.px_real_effects.specs.Effects as Rules
use Rattle.px_real_effects.proofs.effects.ran.Goals as goal

pub returns-in-Call : goal.returns-in-Call
returns-in-Call c = sym (ap Rules.ran (ap typed_expression c.in-Call.is ∙ typed-Call c.in-Call.proc c.in-Call.arguments c.in-Call.result c.in-Call.site))
