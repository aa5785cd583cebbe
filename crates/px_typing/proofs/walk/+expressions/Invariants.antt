use Rattle.std.proofs.Common.{◌≡◌, ◌++◌, map, flat_map, drop}
use Rattle.px_syntax.specs.ExpressionTree.{expression_tree, expressions_of}
use Rattle.px_typing.specs.Mentions.{of_expression, of_expressions}
use Rattle.px_typing.proofs.walk.+expressions.Given as goal

-- what was found, and what is left, are all
abbrev pub invariant-expressions_mentions-loop-expression :
    goal.invariant-expressions_mentions-loop-expression
invariant-expressions_mentions-loop-expression l =
    l.out ++ of_expressions (expressions_of (map expression_tree (drop l.expression-index l.expressions)))
    ≡ l.initial.out ++ of_expressions (expressions_of (map expression_tree l.expressions))

abbrev pub invariant-links_mentions-loop-link : goal.invariant-links_mentions-loop-link
invariant-links_mentions-loop-link l =
    l.out ++ flat_map (λ k. of_expression (expression_tree k.operand)) (drop l.link-index l.links)
    ≡ l.initial.out ++ flat_map (λ k. of_expression (expression_tree k.operand)) l.links
