use Rattle.std.proofs.Common.{◌∙◌, [], sym, ap, map, Some}
use Rattle.std.specs.Prelude.{pos}
use Rattle.px_syntax.specs.TypedTree as T
use Rattle.px_syntax.specs.TypedViews.{typed_expression}
use Rattle.px_real_values.specs.Operators.{step_text}
use Rattle.px_real_values.specs.Views.{operand_seen}
use Rattle.px_real_effects.specs.Targets.{target}
use Rattle.px_real_effects.specs.Effects.{counting, updated, written}
use Rattle.px_real_effects.specs.Views.{target_seen, elsewhere_seen}
use Rattle.px_real_effects.proofs.StatementLemmas.{put_as}
use Rattle.px_real_effects.proofs.assignments.put_stepped.Goals as goal

pub returns-in-Other : goal.returns-in-Other
returns-in-Other g c =
    let env = g.E.Environment.sees c.args.environment.now in
    let write = updated env (step_text c.args.step) c.args.site (Some (counting c.args.step)) (T.constant (pos 1)) [] in
    put_as c.put_unwritten.result _ _ _ _
    (ap (λ z. written write (map typed_expression z) (elsewhere_seen c.in-Other.at)) c.new.ensures.items
    ∙ ap (written write []) (ap target_seen (sym c.in-Other.is) ∙ c.in_ok-kind.ensures ∙ ap (λ z. target env z c.args.site (operand_seen c.args.operand)) c.step_text.ensures))
    (c.put_unwritten.ensures write)
