use Rattle.std.proofs.Common.{◌∙◌, ◌++◌, map, sym, ap, subst, append_assoc, append-nil}
use Rattle.std.specs.Vec.Iter.{into_iter_items}
use Rattle.std.proofs.lemmas.List.{nil_from_length}
use Rattle.px_syntax.specs.ParsedTree.{file_tree}
use Rattle.px_typing.specs.Apart.{AreApart, items_in}
use Rattle.px_typing.proofs.ApartLemmas.{length_tail}
use Rattle.px_typing.proofs.apart.take_apart.Goals as goal

pub loop-file-preserved : goal.loop-file-preserved
loop-file-preserved c =
    let s = c.in-Some.ensures.steps in
    let k = c.loop-file.invariant.1 in (
      length_tail _ _ _ _ _ c.loop-file.invariant.0 s.0 s.1,
      (
        k.0 ++ (file_tree c.in-Some.file).items,
        c.in_ok-add_file.ensures k.0 k.1,
        append_assoc k.0 (file_tree c.in-Some.file).items (items_in (map file_tree (into_iter_items c.next.new.self))) ∙ ap (λ xs. k.0 ++ items_in (map file_tree xs)) (sym s.0) ∙ k.2,
      ),
    )

pub returns : goal.returns
returns c =
    let k = c.loop-file.invariant.1 in
    subst (λ ts. AreApart ts c.loop-file.apart) (sym (append-nil k.0) ∙ ap (λ xs. k.0 ++ items_in (map file_tree xs)) (sym (nil_from_length _ (sym c.loop-file.invariant.0 ∙ c.in-None.ensures.steps.0))) ∙ k.2) k.1
