-- What chains of operators and arrows mention.
use Rattle.std.proofs.Common.{◌≡◌, ◌∙◌, ◌∷◌, ◌++◌, [], ℕ, List, map, flat_map, Box, Vec, Global, refl, sym, ap, append-nil, append_assoc}
use Rattle.px_base.specs.declared.trace.Site.{Site}
use Rattle.px_syntax.specs.declared.expression.BinaryOperator.{BinaryOperator}
use Rattle.px_syntax.specs.declared.expression.Arrow.{Arrow}
use Rattle.px_syntax.specs.declared.expression.Link.{Link}
use Rattle.px_syntax.specs.declared.expression.Expression.{Expression}
use Rattle.px_syntax.specs.declared.expression.Expression.TheVariants as V
use Rattle.px_syntax.specs.ExpressionTree.{ExpressionTree, expressions_of, expression_tree, link_tree, chained, members, binary, member}
use Rattle.px_syntax.proofs.ExpressionEquations.{tree-Binary, tree-Member, tree-Call}
use Rattle.px_typing.specs.Mentions.{Mention, calls, of_expression, of_expressions}

-- what the operands of links mention
abbrev pub of_links : List Link → List Mention
of_links links = flat_map (λ l. of_expression (expression_tree l.operand)) links

chained-mentions : (e : ExpressionTree) (links : List Link) → of_expression (chained e (map link_tree links)) ≡ of_expression e ++ of_links links
chained-mentions e [] = sym (append-nil (of_expression e))
chained-mentions e (l ∷ links) =
    chained-mentions (binary l.operator l.site e (expression_tree l.operand)) links
    ∙ append_assoc (of_expression e) (of_expression (expression_tree l.operand)) (of_links links)

members-mentions : (e : ExpressionTree) (path : List Arrow) → of_expression (members e path) ≡ of_expression e
members-mentions e [] = refl
members-mentions e (a ∷ path) = members-mentions (member e a.field a.site) path

-- what an expression with children of several kinds mentions
pub mentions-Binary : (e : Expression) (first : Box Expression Global) (before : Vec Link Global) (o : BinaryOperator) (s : Site) (right : Box Expression Global) → e ≡ V.Binary first before o s right →
    of_expression (expression_tree e) ≡ (of_expression (expression_tree first.value) ++ of_links before.items) ++ of_expression (expression_tree right.value)
mentions-Binary e first before o s right is =
    ap (λ x. of_expression (expression_tree x)) is
    ∙ (ap of_expression (tree-Binary first before o s right)
    ∙ ap (λ ms. ms ++ of_expression (expression_tree right.value)) (chained-mentions (expression_tree first.value) before.items))

pub mentions-Member : (e : Expression) (s : Site) (a : Box Expression Global) (before : Vec Arrow Global) (f : List ℕ) → e ≡ V.Member s a before f →
    of_expression (expression_tree e) ≡ of_expression (expression_tree a.value)
mentions-Member e s a before f is =
    ap (λ x. of_expression (expression_tree x)) is
    ∙ (ap of_expression (tree-Member s a before f) ∙ members-mentions (expression_tree a.value) before.items)

pub mentions-Call : (e : Expression) (f : List ℕ) (s : Site) (es : Vec Expression Global) → e ≡ V.Call f s es →
    of_expression (expression_tree e) ≡ calls f ∷ of_expressions (expressions_of (map expression_tree es.items))
mentions-Call e f s es is = ap (λ x. of_expression (expression_tree x)) is ∙ ap of_expression (tree-Call f s es)
