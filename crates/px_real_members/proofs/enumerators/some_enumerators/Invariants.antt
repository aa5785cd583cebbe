use Rattle.std.proofs.Common.{◌≡◌, ◌-◌, map, length, drop}
use Rattle.px_real_symbols.specs.Symbols.{seen}
use Rattle.px_real_declarations.specs.declared.trailing.Trailing.TheVariants as E
use Rattle.px_real_declarations.specs.HeldReading.{separated_from}
use Rattle.px_real_declarations.specs.HeldReading.{enumerator_at}
use Rattle.px_real_members.specs.Trees.{enumerator_tree}
use Rattle.px_real_members.proofs.CommaLoops.{with_before}
use Rattle.px_real_members.proofs.enumerators.some_enumerators.Given as goal

abbrev pub invariant-loop : goal.invariant-loop
invariant-loop l =
    with_before (map (enumerator_tree (seen l.on)) l.all.items) (separated_from E.Comma (l.end - l.counter) enumerator_at (drop l.at (seen l.on)))
    ≡ separated_from E.Comma (length (drop l.fn.start (seen l.on))) enumerator_at (drop l.fn.start (seen l.on))
