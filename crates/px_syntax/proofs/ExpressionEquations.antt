-- The equations of `expression_tree`, one for each variant with children.
use Rattle.std.proofs.Common.{◌≡◌, ◌∷◌, ℕ, List, map, Box, Vec, Global, refl, ap, rules}
use Rattle.px_base.specs.declared.trace.Site.{Site}
use Rattle.px_syntax.specs.declared.expression.UnaryOperator.{UnaryOperator}
use Rattle.px_syntax.specs.declared.expression.BinaryOperator.{BinaryOperator}
use Rattle.px_syntax.specs.declared.expression.Arrow.{Arrow}
use Rattle.px_syntax.specs.declared.expression.Link.{Link}
use Rattle.px_syntax.specs.declared.expression.Expression.{Expression, Row_of-Expression, end_of-Expression, more_of-Expression, Row_of-Link, end_of-Link, more_of-Link, items-the_row-Expression, items-the_row-Link}
use Rattle.px_syntax.specs.declared.expression.Expression as E
use Rattle.px_syntax.specs.declared.expression.Expression.TheVariants as V
use Rattle.px_syntax.specs.ExpressionTree.{an_expression, expressions_of, expression_tree, expression_row, link_row, link_tree, chained, members, unary, binary, member, call, free}

pub row_is : (n : _) (k : Row_of-Expression n) → expression_row k ≡ expressions_of (map expression_tree (items-the_row-Expression n k))
row_is _ end_of-Expression = refl
row_is _ (more_of-Expression e rest) = ap (an_expression (expression_tree e)) (row_is _ rest)

pub links_are : (n : _) (k : Row_of-Link n) → link_row k ≡ map link_tree (items-the_row-Link n k)
links_are _ end_of-Link = refl
links_are _ (more_of-Link o s e rest) = ap (λ r. record { operator = o; site = s; operand = expression_tree e } ∷ r) (links_are _ rest)

pub tree-Unary : (o : UnaryOperator) (s : Site) (a : Box Expression Global) → expression_tree (V.Unary o s a) ≡ unary o s (expression_tree a.value)
tree-Unary o s a = search (rules, E.the_lemmas)

pub tree-Binary : (first : Box Expression Global) (before : Vec Link Global) (o : BinaryOperator) (s : Site) (right : Box Expression Global) →
    expression_tree (V.Binary first before o s right) ≡ binary o s (chained (expression_tree first.value) (map link_tree before.items)) (expression_tree right.value)
tree-Binary first before o s right = search (rules, E.the_lemmas, links_are)

pub tree-Member : (s : Site) (a : Box Expression Global) (before : Vec Arrow Global) (f : List ℕ) →
    expression_tree (V.Member s a before f) ≡ member (members (expression_tree a.value) before.items) f s
tree-Member s a before f = search (rules, E.the_lemmas)

pub tree-Call : (f : List ℕ) (s : Site) (es : Vec Expression Global) → expression_tree (V.Call f s es) ≡ call f s (expressions_of (map expression_tree es.items))
tree-Call f s es = search (rules, E.the_lemmas, row_is)

pub tree-Free : (s : Site) (a : Box Expression Global) → expression_tree (V.Free s a) ≡ free s (expression_tree a.value)
tree-Free s a = search (rules, E.the_lemmas)

pub ruleset trees = (tree-Unary, tree-Binary, tree-Member, tree-Call, tree-Free)
