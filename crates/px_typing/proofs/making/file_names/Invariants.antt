use Rattle.std.proofs.Common.{◌≡◌, map, take}
use Rattle.px_syntax.specs.ParsedTree.{file_tree}
use Rattle.px_typing.proofs.making.file_names.Given as goal

abbrev pub invariant-loop-file : goal.invariant-loop-file
invariant-loop-file l = l.all ≡ map (λ f. f.name) (map file_tree (take l.file-index l.files))
