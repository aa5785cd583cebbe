use Rattle.std.proofs.Common.{◌≡◌, ◌≤◌, ◌-◌, ◌+◌, ◌*◌, map, length, Some}
use Rattle.px_syntax.specs.ExpressionTree.{expression_tree}
use Rattle.px_expressions.specs.Lexemes.{seen}
use Rattle.px_expressions.specs.Reading.{more_at, levels_at, unary_at, separated_at, more_items, chain_limit}
use Rattle.px_expressions.proofs.expressions.+expression.Given as goal

abbrev pub decreases-named : goal.decreases-named
decreases-named l = 32 * l.depth

abbrev pub decreases-free : goal.decreases-free
decreases-free l = 32 * l.depth

abbrev pub decreases-parenthesised : goal.decreases-parenthesised
decreases-parenthesised l = 32 * l.depth

abbrev pub decreases-primary : goal.decreases-primary
decreases-primary l = 32 * l.depth + 1

abbrev pub decreases-postfix : goal.decreases-postfix
decreases-postfix l = 32 * l.depth + 2

abbrev pub decreases-unary : goal.decreases-unary
decreases-unary l = 32 * l.depth + 3

abbrev pub decreases-levels : goal.decreases-levels
decreases-levels l = 32 * l.depth + 2 * l.level + 4

abbrev pub decreases-closed : goal.decreases-closed
decreases-closed l = 32 * l.depth + 17

abbrev pub decreases-separated : goal.decreases-separated
decreases-separated l = 32 * l.depth + 17

abbrev pub decreases-arguments : goal.decreases-arguments
decreases-arguments l = 32 * l.depth + 18

abbrev pub decreases-chain : goal.decreases-chain
decreases-chain l = 32 * l.depth + 2 * l.level + 3

abbrev pub invariant-levels-loop-below : goal.invariant-levels-loop-below
invariant-levels-loop-below l = record {
  within : l.below ≤ l.level;
  so_far : levels_at l.below (unary_at l.depth) (seen l.fn.input) ≡ Some (expression_tree l.left, seen l.rest);
}

abbrev pub invariant-chain-loop : goal.invariant-chain-loop
invariant-chain-loop l =
    more_at (chain_limit - l.counter) l.level (levels_at (l.level - 1) (unary_at l.depth)) (expression_tree l.left) (seen l.rest)
    ≡ more_at chain_limit l.level (levels_at (l.level - 1) (unary_at l.depth)) (expression_tree l.fn.first) (seen l.fn.input)

abbrev pub invariant-separated-loop : goal.invariant-separated-loop
invariant-separated-loop l =
    more_items (l.end - l.counter) (levels_at 6 (unary_at l.depth)) (map expression_tree l.all.items) (seen l.rest)
    ≡ separated_at (levels_at 6 (unary_at l.depth)) (seen l.fn.input)
