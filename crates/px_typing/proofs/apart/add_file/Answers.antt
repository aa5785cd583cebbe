use Rattle.std.proofs.Common.{◌∙◌, ◌++◌, ◌∷◌, [], map, sym, ap, subst, append_assoc, append-nil}
use Rattle.std.proofs.lemmas.List.{nil_from_length}
use Rattle.px_syntax.specs.ParsedTree.{parsed_tree}
use Rattle.px_typing.specs.Apart.{AreApart}
use Rattle.px_typing.proofs.ApartLemmas.{length_tail}
use Rattle.px_typing.proofs.apart.add_file.Goals as goal

pub loop-item-preserved : goal.loop-item-preserved
loop-item-preserved c =
    let s = c.in-Some.ensures.steps in (
      length_tail _ _ _ _ _ c.loop-item.invariant.0 s.0 s.1,
      λ before a.
          let k = c.loop-item.invariant.1 before a in (
            k.0 ++ parsed_tree c.in-Some.item ∷ [],
            c.in_ok-add_item.ensures k.0 k.1,
            append_assoc k.0 (parsed_tree c.in-Some.item ∷ []) (map parsed_tree _) ∙ ap (λ xs. k.0 ++ map parsed_tree xs) (sym s.0) ∙ k.2,
          ),
    )

pub returns : goal.returns
returns c before a =
    let k = c.loop-item.invariant.1 before a in
    subst (λ ts. AreApart ts c.loop-item.apart) (sym (append-nil k.0) ∙ ap (λ xs. k.0 ++ map parsed_tree xs) (sym (nil_from_length _ (sym c.loop-item.invariant.0 ∙ c.in-None.ensures.steps.0))) ∙ k.2) k.1
