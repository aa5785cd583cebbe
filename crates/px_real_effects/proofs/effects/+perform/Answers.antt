use Rattle.std.proofs.Common.{◌≡◌, ◌∙◌, sym, ap, map}
use Rattle.px_real_reading.specs.Trees.{expression_tree, suffix_tree, all_suffixed}
use Rattle.px_real_reading.proofs.TreeEquations.{tree-Postfix}
use Rattle.px_real_values.specs.Values.{valued}
use Rattle.px_real_values.specs.Views.{operand_seen}
use Rattle.px_real_effects.specs.Effects.{performed}
use Rattle.px_real_effects.proofs.StatementLemmas.{put_as}
use Rattle.px_real_effects.proofs.effects.+perform.Goals as goal

pub returns-in_ok-left-in-Postfix : goal.returns-in_ok-left-in-Postfix
returns-in_ok-left-in-Postfix g t c =
    let env = g.E.Environment.sees c.args.environment.now in
    let all = g.E.Environment.tokens c.args.environment.now in
    let p = c.in-Postfix in
    let start : operand_seen c.in_ok-start-in-Postfix.start ≡ valued env (expression_tree all p.first.value) =
    c.in_ok-start-in-Postfix.ensures ∙ ap (λ z. valued env (expression_tree all z)) c.deref-in-Postfix.ensures in
    let left : operand_seen c.in_ok-left-in-Postfix.left ≡ valued env (all_suffixed (expression_tree all p.first.value) (map (suffix_tree all) p.before.items)) =
    c.in_ok-left-in-Postfix.ensures _ start ∙ ap (λ z. valued env (all_suffixed (expression_tree all p.first.value) (map (suffix_tree all) z))) c.deref-in-Postfix-2.ensures.value in
    put_as c.put_suffixed.result _ _ _ _ (ap (performed env) (sym (ap (expression_tree all) p.is ∙ tree-Postfix all p.first p.before p.last))) (c.put_suffixed.ensures _ left)
