-- How chains of operators and arrows grow.
use Rattle.std.proofs.Common.{◌≡◌, ◌∷◌, ◌++◌, [], List, map, Box, Vec, Global, refl, ap, sym, ◌∙◌}
use Rattle.std.proofs.lemmas.List.{map-append}
use Rattle.px_base.specs.declared.trace.Site.{Site}
use Rattle.px_syntax.specs.declared.expression.BinaryOperator.{BinaryOperator}
use Rattle.px_syntax.specs.declared.expression.Arrow.{Arrow}
use Rattle.px_syntax.specs.declared.expression.Link.{Link}
use Rattle.px_syntax.specs.declared.expression.Expression.{Expression}
use Rattle.px_syntax.specs.declared.expression.Expression.TheVariants as V
use Rattle.px_syntax.specs.ExpressionTree.{ExpressionTree, LinkTree, expression_tree, link_tree, chained, members, binary, member}
use Rattle.px_syntax.proofs.ExpressionEquations.{tree-Binary, tree-Member}

-- one more link, or one more arrow
pub chained-more : (e : ExpressionTree) (links : List LinkTree) (l : LinkTree) → chained e (links ++ l ∷ []) ≡ binary l.operator l.site (chained e links) l.operand
chained-more e [] l = refl
chained-more e (k ∷ links) l = chained-more (binary k.operator k.site e k.operand) links l

pub members-more : (e : ExpressionTree) (path : List Arrow) (a : Arrow) → members e (path ++ a ∷ []) ≡ member (members e path) a.field a.site
members-more e [] a = refl
members-more e (b ∷ path) a = members-more (member e b.field b.site) path a

-- what is to the left of an operator
pub binary-is : (first : Box Expression Global) (before : Vec Link Global) (o : BinaryOperator) (s : Site) (right : Box Expression Global) (left : ExpressionTree) (r : Expression) →
    chained (expression_tree first.value) (map link_tree before.items) ≡ left → right.value ≡ r →
    expression_tree (V.Binary first before o s right) ≡ binary o s left (expression_tree r)
binary-is first before o s right left r is_left is_right =
    tree-Binary first before o s right ∙ (ap (λ e. binary o s e (expression_tree right.value)) is_left ∙ ap (λ x. binary o s left (expression_tree x)) is_right)

-- a whole expression with an operator as the links of a longer chain
pub links-are-whole : (first : Box Expression Global) (before : Vec Link Global) (o : BinaryOperator) (s : Site) (right : Box Expression Global) (operand : Expression) (links : List Link) →
    operand ≡ right.value → links ≡ before.items ++ record { operator = o; site = s; operand = operand } ∷ [] →
    chained (expression_tree first.value) (map link_tree links) ≡ expression_tree (V.Binary first before o s right)
links-are-whole first before o s right operand links is_operand is_links =
    let l : Link = record { operator = o; site = s; operand = operand } in
    ap (λ ls. chained (expression_tree first.value) (map link_tree ls)) is_links
    ∙ (ap (chained (expression_tree first.value)) (map-append link_tree before.items (l ∷ []))
    ∙ (chained-more (expression_tree first.value) (map link_tree before.items) (link_tree l)
    ∙ (ap (λ x. binary o s (chained (expression_tree first.value) (map link_tree before.items)) (expression_tree x)) is_operand
    ∙ sym (tree-Binary first before o s right))))

pub ruleset member_chains = (tree-Member, members-more)
