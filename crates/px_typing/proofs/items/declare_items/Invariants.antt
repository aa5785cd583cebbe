use Rattle.std.proofs.Common.{[], ◌++◌, List, map, take}
use Rattle.px_syntax.specs.ParsedTree.{ParsedTree, parsed_tree}
use Rattle.px_typing.specs.Readings.{Knows}
use Rattle.px_typing.proofs.items.declare_items.Given as goal

abbrev pub invariant-loop-i : goal.invariant-loop-i
invariant-loop-i l =
    (defined before : List ParsedTree) → Knows defined before l.initial.reading →
    Knows defined (before ++ map (λ m. parsed_tree m.item.now) (take l.i l.marked)) l.reading
