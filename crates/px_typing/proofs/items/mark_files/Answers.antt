use Rattle.std.proofs.Common.{◌≡◌, ◌++◌, map, flat_map, take, sym, subst}
use Rattle.px_syntax.specs.ParsedTree.{FileTree, file_tree, parsed_tree}
use Rattle.px_typing.specs.ItemViews.{marked_of}
use Rattle.px_typing.proofs.ItemLemmas.{IsMarked, files_more, marked_more}
use Rattle.px_typing.proofs.items.mark_files.Goals as goal

pub loop-file-preserved : goal.loop-file-preserved
loop-file-preserved c before k =
    let xs = flat_map (λ (f : FileTree). f.items) (map file_tree (take c.loop-file.file-index c.args.files.now)) in
    let h = c.loop-file.invariant before k in
    let d = c.in_ok-mark_items.ensures (before ++ xs) h.1 in
    subst (λ ys. IsMarked (map marked_of c.mark_items.new.marked.items) before c.mark_items.new.reading (map marked_of c.args.marked.now.items) ys)
    (sym (files_more c.args.files.now c.loop-file.file-index c.file-item.result c.loop-file-test.true c.file-item.is))
    (marked_more (map marked_of c.loop-file.marked.items) (map marked_of c.mark_items.new.marked.items) (map marked_of c.args.marked.now.items) before xs _
    c.loop-file.reading c.mark_items.new.reading h
    (subst (λ items. IsMarked (map marked_of c.mark_items.new.marked.items) (before ++ xs) c.mark_items.new.reading (map marked_of c.loop-file.marked.items) (map parsed_tree items)) c.as_slice.ensures d))
