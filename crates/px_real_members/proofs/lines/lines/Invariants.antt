use Rattle.std.proofs.Common.{◌≡◌, ◌-◌, map, length, drop}
use Rattle.px_real_symbols.specs.Symbols.{seen}
use Rattle.px_real_blocks.proofs.Loops.{after_all}
use Rattle.px_real_declarations.specs.Reading.{declaration_by}
use Rattle.px_real_declarations.specs.HeldReading.{lines_from}
use Rattle.px_real_declaring.specs.Items.{item_at}
use Rattle.px_real_declaring.specs.Trees.{declaration_tree}
use Rattle.px_real_members.proofs.lines.lines.Given as goal

abbrev pub invariant-loop : goal.invariant-loop
invariant-loop g l =
    after_all (map (declaration_tree (seen l.on)) l.all.items)
    (lines_from (l.end - l.counter) l.members (declaration_by (g.T.TypeNames.named l.types) (item_at (g.T.TypeNames.named l.types) l.members)) (drop l.at (seen l.on)))
    ≡ lines_from (length (drop l.fn.start (seen l.on))) l.members (declaration_by (g.T.TypeNames.named l.types) (item_at (g.T.TypeNames.named l.types) l.members)) (drop l.fn.start (seen l.on))
