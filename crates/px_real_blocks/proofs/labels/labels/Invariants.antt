use Rattle.std.proofs.Common.{◌≡◌, ◌-◌, map, length, drop}
use Rattle.px_real_symbols.specs.Symbols.{seen}
use Rattle.px_real_blocks.proofs.Loops.{after_all}
use Rattle.px_real_statements.specs.Reading.{labels_at}
use Rattle.px_real_blocks.specs.Trees.{label_tree}
use Rattle.px_real_blocks.proofs.labels.labels.Given as goal

abbrev pub invariant-loop : goal.invariant-loop
invariant-loop l =
    after_all (map (label_tree (seen l.on)) l.all.items) (labels_at (l.end - l.counter) (drop l.at (seen l.on)))
    ≡ labels_at (length (drop l.fn.start (seen l.on))) (drop l.fn.start (seen l.on))
