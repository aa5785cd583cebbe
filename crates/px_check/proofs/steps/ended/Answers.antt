use Rattle.std.proofs.Common.{sym, ◌∙◌}
use Rattle.px_check.proofs.TurnLemmas.{ends_well}
use Rattle.px_check.proofs.steps.ended.Goals as goal

pub returns-then-is_end_at-clause-course : goal.returns-then-is_end_at-clause-course
returns-then-is_end_at-clause-course c = ends_well c.args.place c.args.state c.args.exit c.args.given c.args.steps.now (sym c.is_end_at.ensures ∙ c.if-is_end_at.true)
