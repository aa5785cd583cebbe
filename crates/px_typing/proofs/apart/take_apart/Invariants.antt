use Rattle.std.proofs.Common.{◌≡◌, ◌++◌, List, length, map}
use Rattle.std.specs.Vec.Iter.{into_iter_items, into_iter_len}
use Rattle.px_syntax.specs.ParsedTree.{ParsedTree, file_tree}
use Rattle.px_typing.specs.Apart.{AreApart, items_in}
use Rattle.px_typing.proofs.apart.take_apart.Given as goal

-- what is apart so far and what the files have that are left are all the items
abbrev pub invariant-loop-file : goal.invariant-loop-file
invariant-loop-file l =
    (into_iter_len l.file-iterator ≡ length (into_iter_items l.file-iterator))
    × ((done : List ParsedTree) × AreApart done l.apart × (done ++ items_in (map file_tree (into_iter_items l.file-iterator)) ≡ items_in (map file_tree l.fn.files)))
