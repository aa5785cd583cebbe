use Rattle.std.proofs.Common.{◌≡◌, ◌∙◌, ◌++◌, ◌∷◌, [], map, take, ◌+◌, refl, sym, ap, subst}
use Rattle.std.proofs.lemmas.List.{map_push}
use Rattle.px_syntax.specs.ParsedTree.{parsed_tree}
use Rattle.px_typing.specs.ItemViews.{marked_of}
use Rattle.px_typing.proofs.ItemLemmas.{IsMarked, marked_more}
use Rattle.px_typing.proofs.items.mark_items.Goals as goal
use Rattle.px_syntax.proofs.Lists.{map-take_more}

pub loop-item-preserved : goal.loop-item-preserved
loop-item-preserved c before k =
    let xs = map parsed_tree (take c.loop-item.item-index c.args.items.now) in
    let x = parsed_tree c.item-item.result in
    let h = c.loop-item.invariant before k in
    let d = c.in_ok-duplicate.ensures (before ++ xs) h.1 in
    subst (λ ys. IsMarked (map marked_of c.push.new.self.items) before c.define.new.self (map marked_of c.args.marked.now.items) ys)
    (sym (map-take_more parsed_tree c.args.items.now c.loop-item.item-index c.item-item.result c.loop-item-test.true c.item-item.is))
    (marked_more (map marked_of c.loop-item.marked.items) (map marked_of c.push.new.self.items) (map marked_of c.args.marked.now.items) before xs (x ∷ [])
    c.loop-item.reading c.define.new.self h (
      ap (map marked_of) c.in_ok-push.ensures.items ∙ map_push marked_of c.loop-item.marked.items _
          ∙ ap (λ l. map marked_of c.loop-item.marked.items ++ record { item = x; duplicate = l } ∷ []) d.0,
      d.1,
    ))
