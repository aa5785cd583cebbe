use Rattle.std.proofs.Common.{◌≡◌, ◌-◌, length}
use Rattle.px_expressions.specs.Lexemes.{seen}
use Rattle.px_expressions.specs.Reading.{separated_at, more_items}
use Rattle.px_statements.specs.SimpleReading.{declarator_at}
use Rattle.px_parser.proofs.item_parts.declarators.Given as goal

abbrev pub invariant-loop : goal.invariant-loop
invariant-loop l =
    more_items (l.end - l.counter) declarator_at l.all.items (seen l.rest) ≡ separated_at declarator_at (seen l.fn.input)
