use Rattle.std.proofs.Common.{◌≡◌, [], ◌++◌, List, map, flat_map, take}
use Rattle.px_syntax.specs.ParsedTree.{ParsedTree, file_tree}
use Rattle.px_typing.specs.Keeping.{marked_after}
use Rattle.px_typing.specs.ItemViews.{marked_of}
use Rattle.px_typing.specs.Readings.{Knows}
use Rattle.px_typing.proofs.items.mark_files.Given as goal

abbrev pub invariant-loop-file : goal.invariant-loop-file
invariant-loop-file l =
    (before : List ParsedTree) → Knows before [] l.initial.reading →
    (map marked_of l.marked.items ≡ map marked_of l.initial.marked.items ++ marked_after before (flat_map (λ f. f.items) (map file_tree (take l.file-index l.files))))
    × Knows (before ++ flat_map (λ f. f.items) (map file_tree (take l.file-index l.files))) [] l.reading
