use Rattle.std.proofs.Common.{◌≡◌, ◌≤◌, ◌-◌, ◌+◌, ◌*◌, map, length, drop, false, Ok}
use Rattle.px_real_expressions.specs.Reading.{more_at, levels_at, operand_of, readers, more_items, arguments_at, suffixes_at, assignment_by, expression_by}
use Rattle.px_real_symbols.specs.Symbols.{seen}
use Rattle.px_real_reading.specs.declared.expressions.Part.TheVariants as P
use Rattle.px_real_reading.specs.Parts.{part_reader}
use Rattle.px_real_reading.specs.Trees.{expression_tree}
use Rattle.px_real_reading.proofs.Loops.{after_items}
use Rattle.px_real_reading.proofs.expressions.+expression.Given as goal

abbrev pub decreases-inside : goal.decreases-inside
decreases-inside l = 64 * l.depth + 0

abbrev pub decreases-arguments : goal.decreases-arguments
decreases-arguments l = 64 * l.depth + 1

abbrev pub decreases-behind : goal.decreases-behind
decreases-behind l = 64 * l.depth + 4

abbrev pub decreases-suffix : goal.decreases-suffix
decreases-suffix l = 64 * l.depth + 2

abbrev pub decreases-suffixes : goal.decreases-suffixes
decreases-suffixes l = 64 * l.depth + 3

abbrev pub decreases-operand : goal.decreases-operand
decreases-operand l = 64 * l.depth + 5

abbrev pub decreases-conditional : goal.decreases-conditional
decreases-conditional l = 64 * l.depth + 27

abbrev pub decreases-assigned : goal.decreases-assigned
decreases-assigned l = 64 * l.depth + 28

abbrev pub decreases-expression : goal.decreases-expression
decreases-expression l = 64 * l.depth + 29

abbrev pub decreases-levels : goal.decreases-levels
decreases-levels l = 64 * l.depth + 2 * l.level + 6

abbrev pub decreases-chain : goal.decreases-chain
decreases-chain l = 64 * l.depth + 2 * l.level + 5

abbrev pub invariant-expression-loop : goal.invariant-expression-loop
invariant-expression-loop l =
    more_at (l.end - l.counter) 13 (assignment_by (readers l.depth)) (expression_tree (seen l.on) l.tree) (drop l.rest (seen l.on))
    ≡ expression_by (readers l.depth) (drop l.fn.at (seen l.on))

abbrev pub invariant-levels-loop-below : goal.invariant-levels-loop-below
invariant-levels-loop-below l = record {
  within : l.below ≤ l.level;
  so_far : levels_at l.below (operand_of false (readers l.depth)) (drop l.fn.at (seen l.on)) ≡ Ok (expression_tree (seen l.on) l.tree, drop l.rest (seen l.on));
}

abbrev pub invariant-chain-loop : goal.invariant-chain-loop
invariant-chain-loop l =
    more_at (l.end - l.counter) l.level (levels_at (l.level - 1) (operand_of false (readers l.depth))) (expression_tree (seen l.on) l.tree) (drop l.rest (seen l.on))
    ≡ more_at (length (drop l.fn.at (seen l.on))) l.level (levels_at (l.level - 1) (operand_of false (readers l.depth))) (expression_tree (seen l.on) l.fn.first) (drop l.fn.at (seen l.on))

abbrev pub invariant-suffixes-loop : goal.invariant-suffixes-loop
invariant-suffixes-loop l =
    suffixes_at (readers l.depth) (l.end - l.counter) (expression_tree (seen l.on) l.tree) (drop l.rest (seen l.on))
    ≡ suffixes_at (readers l.depth) (length (drop l.fn.at (seen l.on))) (expression_tree (seen l.on) l.fn.first) (drop l.fn.at (seen l.on))

abbrev pub invariant-arguments-loop : goal.invariant-arguments-loop
invariant-arguments-loop l =
    after_items (map (expression_tree (seen l.on)) l.all.items) (more_items (l.end - l.counter) (part_reader P.Assignment (readers l.depth)) (drop l.rest (seen l.on)))
    ≡ arguments_at (part_reader P.Assignment (readers l.depth)) (drop l.fn.at (seen l.on))
