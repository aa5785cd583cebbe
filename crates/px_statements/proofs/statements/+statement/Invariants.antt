use Rattle.std.proofs.Common.{◌≡◌, ◌-◌, ◌+◌, ◌*◌, map, length, []}
use Rattle.px_syntax.specs.StatementTree.{statement_tree}
use Rattle.px_expressions.specs.Lexemes.{seen}
use Rattle.px_statements.specs.StatementReading.{statements_at, statement_at}
use Rattle.px_statements.proofs.statements.+statement.Given as goal

abbrev pub decreases-statement : goal.decreases-statement
decreases-statement l = 8 * l.depth

abbrev pub decreases-any_statement : goal.decreases-any_statement
decreases-any_statement l = 8 * l.depth + 1

abbrev pub decreases-inner : goal.decreases-inner
decreases-inner l = 8 * l.depth + 2

abbrev pub decreases-branches : goal.decreases-branches
decreases-branches l = 8 * l.depth + 3

abbrev pub decreases-choice : goal.decreases-choice
decreases-choice l = 8 * l.depth + 4

abbrev pub decreases-while_loop : goal.decreases-while_loop
decreases-while_loop l = 8 * l.depth + 3

abbrev pub decreases-for_loop : goal.decreases-for_loop
decreases-for_loop l = 8 * l.depth + 3

abbrev pub decreases-statements : goal.decreases-statements
decreases-statements l = 8 * l.depth + 3

abbrev pub decreases-block : goal.decreases-block
decreases-block l = 8 * l.depth + 4

abbrev pub invariant-statements-loop : goal.invariant-statements-loop
invariant-statements-loop l =
    statements_at (l.end - l.counter) (statement_at l.depth) (map statement_tree l.all.items) (seen l.rest)
    ≡ statements_at (length (seen l.fn.input)) (statement_at l.depth) [] (seen l.fn.input)
