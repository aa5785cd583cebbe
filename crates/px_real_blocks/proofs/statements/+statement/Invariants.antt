use Rattle.std.proofs.Common.{◌≡◌, ◌+◌, ◌*◌, ◌-◌, map, length, drop}
use Rattle.px_real_symbols.specs.Symbols.{seen}
use Rattle.px_real_blocks.proofs.Loops.{after_all}
use Rattle.px_real_statements.specs.Reading.{items_at, statement_at}
use Rattle.px_real_blocks.specs.Trees.{statement_tree}
use Rattle.px_real_blocks.proofs.statements.+statement.Given as goal

abbrev pub decreases-statement : goal.decreases-statement
decreases-statement l = 8 * l.depth

abbrev pub decreases-unlabelled : goal.decreases-unlabelled
decreases-unlabelled l = 8 * l.depth + 4

abbrev pub decreases-block : goal.decreases-block
decreases-block l = 8 * l.depth + 3

abbrev pub decreases-items : goal.decreases-items
decreases-items l = 8 * l.depth + 2

abbrev pub decreases-some_statement : goal.decreases-some_statement
decreases-some_statement l = 8 * l.depth + 1

abbrev pub decreases-choice : goal.decreases-choice
decreases-choice l = 8 * l.depth + 1

abbrev pub decreases-switch : goal.decreases-switch
decreases-switch l = 8 * l.depth + 1

abbrev pub decreases-while_loop : goal.decreases-while_loop
decreases-while_loop l = 8 * l.depth + 1

abbrev pub decreases-do_loop : goal.decreases-do_loop
decreases-do_loop l = 8 * l.depth + 1

abbrev pub decreases-for_loop : goal.decreases-for_loop
decreases-for_loop l = 8 * l.depth + 1

abbrev pub invariant-items-loop : goal.invariant-items-loop
invariant-items-loop l =
    after_all (map (statement_tree (seen l.on)) l.all.items) (items_at (l.end - l.counter) (statement_at l.depth) (drop l.at (seen l.on)))
    ≡ items_at (length (drop l.fn.start (seen l.on))) (statement_at l.depth) (drop l.fn.start (seen l.on))
