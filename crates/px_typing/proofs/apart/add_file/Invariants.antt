use Rattle.std.proofs.Common.{◌≡◌, ◌++◌, List, length, map}
use Rattle.std.specs.Vec.Iter.{into_iter_items, into_iter_len}
use Rattle.px_syntax.specs.ParsedTree.{ParsedTree, parsed_tree, file_tree}
use Rattle.px_typing.specs.Apart.{AreApart}
use Rattle.px_typing.proofs.apart.add_file.Given as goal

-- what is apart so far and what is left are the items of the file after those before
abbrev pub invariant-loop-item : goal.invariant-loop-item
invariant-loop-item l =
    (into_iter_len l.item-iterator ≡ length (into_iter_items l.item-iterator))
    × ((before : List ParsedTree) → AreApart before l.fn.apart →
    (done : List ParsedTree) × AreApart done l.apart × (done ++ map parsed_tree (into_iter_items l.item-iterator) ≡ before ++ (file_tree l.fn.file).items))
