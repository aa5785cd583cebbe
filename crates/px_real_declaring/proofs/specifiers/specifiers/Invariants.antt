use Rattle.std.proofs.Common.{◌≡◌, ◌-◌, map, length, drop, false}
use Rattle.px_real_symbols.specs.Symbols.{seen}
use Rattle.px_real_blocks.proofs.Loops.{after_all}
use Rattle.px_real_declarations.specs.Reading.{specifiers_at}
use Rattle.px_real_declaring.specs.Trees.{specifier_tree}
use Rattle.px_real_declaring.proofs.specifiers.specifiers.Given as goal

abbrev pub invariant-loop : goal.invariant-loop
invariant-loop g l =
    after_all (map (specifier_tree (seen l.on)) l.all.items) (specifiers_at (g.T.TypeNames.named l.types) (l.end - l.counter) l.said (drop l.at (seen l.on)))
    ≡ specifiers_at (g.T.TypeNames.named l.types) (length (drop l.fn.start (seen l.on))) false (drop l.fn.start (seen l.on))
