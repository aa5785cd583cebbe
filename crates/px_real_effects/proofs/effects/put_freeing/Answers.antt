use Rattle.std.proofs.Common.{◌≡◌, ◌≢◌, ◌∙◌, ◌∷◌, [], ap, length, arith}
use Rattle.px_syntax.specs.TypedTree as T
use Rattle.px_syntax.specs.TypedViews.{typed_expression}
use Rattle.px_real_effects.proofs.FreeLemmas.{freeing_no_one, freeing_one}
use Rattle.px_real_effects.proofs.StatementLemmas.{put_as}
use Rattle.px_real_effects.proofs.effects.put_freeing.Goals as goal

pub returns-then-arguments-ne1 : goal.returns-then-arguments-ne1
returns-then-arguments-ne1 g c =
    let others : length c.args.arguments.now ≢ 1 = omega arith in
    put_as c.put_no_free.result _ _ _ _ (freeing_no_one (g.E.Environment.sees c.args.environment.now) (g.E.Environment.tokens c.args.environment.now) c.args.at c.args.arguments.now others) c.put_no_free.ensures

pub returns : goal.returns
returns g c =
    let one : length c.args.arguments.now ≡ 1 = omega arith in
    let all = g.E.Environment.tokens c.args.environment.now in
    put_as c.put.result _ _ _ _
    (ap (λ z. T.free (typed_expression z) c.type_id-block.result c.args.at ∷ []) c.in_ok-pointer.ensures.ok
    ∙ freeing_one (g.E.Environment.sees c.args.environment.now) all c.args.at c.args.arguments.now c.index-arguments-0.result one c.index-arguments-0.is c.first_site.result _ c.in_ok-block.block
    (typed_expression c.in_ok-block.pointer) c.type_id-block.result (c.first_site.ensures all) c.in_ok-value.ensures c.in_ok-block.ensures c.type_id-block.ensures)
    c.put.ensures
