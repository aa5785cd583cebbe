use Rattle.std.proofs.Common.{◌≡◌, ◌-◌, length, drop}
use Rattle.px_real_symbols.specs.Symbols.{seen}
use Rattle.px_real_declarations.specs.declared.trailing.Trailing.TheVariants as E
use Rattle.px_real_declarations.specs.HeldReading.{separated_from}
use Rattle.px_real_declarations.specs.HeldReading.{other_at}
use Rattle.px_real_members.proofs.CommaLoops.{with_before}
use Rattle.px_real_members.proofs.parameters.names.Given as goal

abbrev pub invariant-loop : goal.invariant-loop
invariant-loop g l =
    with_before (l.all.items) (separated_from E.Nothing (l.end - l.counter) (other_at (g.T.TypeNames.named l.types)) (drop l.at (seen l.on)))
    ≡ separated_from E.Nothing (length (drop l.fn.start (seen l.on))) (other_at (g.T.TypeNames.named l.types)) (drop l.fn.start (seen l.on))
