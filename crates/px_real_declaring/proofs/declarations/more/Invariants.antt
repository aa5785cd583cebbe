use Rattle.std.proofs.Common.{◌≡◌, ◌-◌, map, drop}
use Rattle.px_real_symbols.specs.Symbols.{seen}
use Rattle.px_real_blocks.proofs.Loops.{after_all}
use Rattle.px_real_declarations.specs.Reading.{more_declared}
use Rattle.px_real_declaring.specs.Trees.{declared_tree}
use Rattle.px_real_declaring.specs.Items.{item_at, with_more}
use Rattle.px_real_declaring.proofs.declarations.more.Given as goal

abbrev pub invariant-loop : goal.invariant-loop
invariant-loop g l =
    after_all (map (declared_tree (seen l.on)) l.all.items) (more_declared (l.end - l.counter) (item_at (g.T.TypeNames.named l.types) l.members) (drop l.at (seen l.on)))
    ≡ with_more (item_at (g.T.TypeNames.named l.types) l.members) (declared_tree (seen l.on) l.fn.first) (drop l.fn.start (seen l.on))
