use Rattle.std.proofs.Common.{◌≡◌, ◌∙◌, ◌+◌, ◌-◌, ◌++◌, ◌∷◌, drop, ap, sym, arith, length}
use Rattle.std.proofs.lemmas.List.{drop-drop, drop_more, length-drop}
use Rattle.px_text_report.specs.LeftOut.{by_place, those_after}
use Rattle.px_text_report.proofs.ListLemmas.{one_more}
use Rattle.px_text_report.proofs.left_out.merged.Goals as goal

pub loop-item-preserved : goal.loop-item-preserved
loop-item-preserved c =
    let x = c.item-item.result in
    let left = c.args.left.now in
    let others = c.args.others.now in
    let i = c.loop-item.item-index in
    let from = c.loop-item.from in
    let n = c.in_ok-from.field-0 in
    let counted = c.in_ok-from.ensures.count in
    let behind = c.behind.ensures in
    let size : length c.behind.result.now ≡ length others - from = ap length behind ∙ length-drop from others in
    let is : drop i left ≡ x ∷ drop (i + 1) left = drop_more left i x c.loop-item-test.true ∙ ap (λ z. z ∷ drop (i + 1) left) (sym c.item-item.is) in
    let rest : drop (from + n) others ≡ those_after x.site c.behind.result.now = sym (drop-drop n from others) ∙ ap (drop n) (sym behind) ∙ counted.1 in (
      omega (arith, counted, size, c.loop-item.invariant),
      one_more _ _ _ x (drop (i + 1) left) c.behind.result.now (drop (from + n) others) c.in_ok-from.ensures.items c.in_ok-put_copy.ensures rest
          ∙ ap (λ z. c.loop-item.all.items ++ by_place (x ∷ drop (i + 1) left) z) behind
          ∙ ap (λ z. c.loop-item.all.items ++ by_place z (drop from others)) (sym is)
          ∙ c.loop-item.invariant.1,
    )
