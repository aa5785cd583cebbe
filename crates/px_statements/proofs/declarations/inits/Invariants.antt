use Rattle.std.proofs.Common.{◌≡◌, ◌-◌, map, length}
use Rattle.px_syntax.specs.StatementTree.{init_tree}
use Rattle.px_expressions.specs.Lexemes.{seen}
use Rattle.px_expressions.specs.Reading.{separated_at, more_items}
use Rattle.px_statements.specs.SimpleReading.{init_at}
use Rattle.px_statements.proofs.declarations.inits.Given as goal

abbrev pub invariant-loop : goal.invariant-loop
invariant-loop l =
    more_items (l.end - l.counter) (init_at l.depth) (map init_tree l.all.items) (seen l.rest)
    ≡ separated_at (init_at l.depth) (seen l.fn.input)
