use Rattle.std.proofs.Common.{◌≡◌, ◌-◌, map, length, drop}
use Rattle.px_real_symbols.specs.Symbols.{seen}
use Rattle.px_real_declarations.specs.declared.trailing.Trailing.TheVariants as E
use Rattle.px_real_declarations.specs.HeldReading.{separated_from}
use Rattle.px_real_declarations.specs.Reading.{parameter_at}
use Rattle.px_real_declaring.specs.Items.{nesting_limit}
use Rattle.px_real_declaring.specs.Trees.{declaration_tree}
use Rattle.px_real_members.proofs.CommaLoops.{with_before}
use Rattle.px_real_members.proofs.parameters.declared.Given as goal

abbrev pub invariant-loop : goal.invariant-loop
invariant-loop g l =
    with_before (map (declaration_tree (seen l.on)) l.all.items) (separated_from E.Dots (l.end - l.counter) (parameter_at (g.T.TypeNames.named l.types) nesting_limit) (drop l.at (seen l.on)))
    ≡ separated_from E.Dots (length (drop l.fn.start (seen l.on))) (parameter_at (g.T.TypeNames.named l.types) nesting_limit) (drop l.fn.start (seen l.on))
