use Rattle.std.proofs.Common.{◌≡◌, [], ◌++◌, List, map, take}
use Rattle.px_syntax.specs.ParsedTree.{ParsedTree, parsed_tree}
use Rattle.px_typing.specs.Keeping.{marked_after}
use Rattle.px_typing.specs.ItemViews.{marked_of}
use Rattle.px_typing.specs.Readings.{Knows}
use Rattle.px_typing.proofs.items.mark_items.Given as goal

abbrev pub invariant-loop-item : goal.invariant-loop-item
invariant-loop-item l =
    (before : List ParsedTree) → Knows before [] l.initial.reading →
    (map marked_of l.marked.items ≡ map marked_of l.initial.marked.items ++ marked_after before (map parsed_tree (take l.item-index l.items)))
    × Knows (before ++ map parsed_tree (take l.item-index l.items)) [] l.reading
