use Rattle.std.proofs.Common.{◌≡◌, ◌-◌, map, length, drop}
use Rattle.px_real_symbols.specs.Symbols.{seen}
use Rattle.px_real_blocks.proofs.Loops.{after_all}
use Rattle.px_real_declarations.specs.Reading.{qualifier_at, many_at}
use Rattle.px_real_declaring.specs.Trees.{specifier_tree}
use Rattle.px_real_declaring.proofs.declarators.qualifiers.Given as goal

abbrev pub invariant-loop : goal.invariant-loop
invariant-loop l =
    after_all (map (specifier_tree (seen l.on)) l.all.items) (many_at (l.end - l.counter) qualifier_at (drop l.at (seen l.on)))
    ≡ many_at (length (drop l.fn.start (seen l.on))) qualifier_at (drop l.fn.start (seen l.on))
