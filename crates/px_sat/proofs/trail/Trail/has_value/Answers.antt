use Rattle.std.proofs.Common.{sym, ◌∙◌}
use Rattle.px_sat.proofs.StepLemmas.{known_value, unknown_value}
use Rattle.px_sat.proofs.trail.Trail.has_value.Goals as goal

pub returns-clause-known : goal.returns-clause-known
returns-clause-known c = λ e. known_value c.args.self.now c.args.variable c.place_of.result c.place_of.ensures.some (sym c.is_some.ensures ∙ e)

pub returns-clause-unknown : goal.returns-clause-unknown
returns-clause-unknown c = λ e. unknown_value c.args.self.now c.args.variable c.place_of.result c.place_of.ensures.none (sym c.is_some.ensures ∙ e)
