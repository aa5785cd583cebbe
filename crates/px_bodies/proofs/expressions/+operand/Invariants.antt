use Rattle.std.proofs.Common.{◌≡◌, ◌++◌, map, drop, option_map, Some}
use Rattle.px_syntax.specs.ExpressionTree.{expression_tree, expressions_of, link_tree}
use Rattle.px_syntax.specs.TypedViews.{typed_argument}
use Rattle.px_bodies.specs.Environment.{environment_of}
use Rattle.px_bodies.specs.Expressions.{typed_arguments}
use Rattle.px_bodies.specs.Operands.{operand_seen, wanted_of}
use Rattle.px_bodies.proofs.ChainLemmas.{typed_links}
use Rattle.px_bodies.proofs.expressions.+operand.Given as goal

abbrev pub invariant-arguments-loop-i : goal.invariant-arguments-loop-i
invariant-arguments-loop-i l =
    typed_arguments (environment_of l.environment) l.locals.visible (wanted_of l.wanted) (expressions_of (map expression_tree l.given))
    ≡ option_map (λ rest. map typed_argument l.all.items ++ rest)
    (typed_arguments (environment_of l.environment) l.locals.visible (option_map (drop l.i) (wanted_of l.wanted)) (expressions_of (map expression_tree (drop l.i l.given))))

abbrev pub invariant-links-loop-i : goal.invariant-links-loop-i
invariant-links-loop-i l =
    typed_links (environment_of l.environment) l.locals.visible (Some (operand_seen l.initial.left)) l.initial.at (map link_tree l.links)
    ≡ typed_links (environment_of l.environment) l.locals.visible (Some (operand_seen l.left)) l.at (map link_tree (drop l.i l.links))
