-- The equations of the trees of the code, one for each variant with children.
use Rattle.std.proofs.Common.{◌≡◌, ◌∷◌, ◌++◌, [], List, map, Option, Box, Vec, Global, refl, ap, sym, ◌∙◌, rules}
use Rattle.std.proofs.lemmas.List.{map-append}
use Rattle.px_base.specs.declared.trace.Site.{Site}
use Rattle.px_real_expressions.specs.declared.operators.Prefix.{Prefix}
use Rattle.px_real_expressions.specs.declared.operators.Operator.{Operator}
use Rattle.px_real_expressions.specs.declared.operators.Measure.{Measure}
use Rattle.px_real_expressions.specs.Lexemes.{Lexeme}
use Rattle.px_real_expressions.specs.ExpressionTree.{ExpressionTree, an_expression, expressions_of, parenthesised, prefixed, measure, cast, binary, choice, choice_or, assign}
use Rattle.px_real_symbols.specs.declared.held.Span.{Span}
use Rattle.px_real_symbols.specs.Symbols.{held_in}
use Rattle.px_real_reading.specs.declared.tree.Link.{Link}
use Rattle.px_real_reading.specs.declared.tree.Suffix.{Suffix, Row_of-Expression, end_of-Expression, more_of-Expression, items-the_row-Expression}
use Rattle.px_real_reading.specs.declared.tree.Suffix as S
use Rattle.px_real_reading.specs.declared.tree.Suffix.TheVariants as SV
use Rattle.px_real_reading.specs.declared.tree.Expression.{Expression, Row_of-Link, end_of-Link, more_of-Link, items-the_row-Link, Row_of-Suffix, end_of-Suffix, more_of-Suffix, items-the_row-Suffix}
use Rattle.px_real_reading.specs.declared.tree.Expression as E
use Rattle.px_real_reading.specs.declared.tree.Expression.TheVariants as V
use Rattle.px_real_reading.specs.Trees.{LinkTree, SuffixTree, an_index, a_call, expression_tree, suffix_tree, link_tree, expression_row, suffix_row, link_row, chained, suffixed, all_suffixed}

pub row_is : (all : List Lexeme) (n : _) (k : Row_of-Expression n) → expression_row all k ≡ expressions_of (map (expression_tree all) (items-the_row-Expression n k))
row_is all _ end_of-Expression = refl
row_is all _ (more_of-Expression e rest) = ap (an_expression (expression_tree all e)) (row_is all _ rest)

pub links_are : (all : List Lexeme) (n : _) (k : Row_of-Link n) → link_row all k ≡ map (link_tree all) (items-the_row-Link n k)
links_are all _ end_of-Link = refl
links_are all _ (more_of-Link o s e rest) = ap (λ r. record { operator = o; site = s; operand = expression_tree all e } ∷ r) (links_are all _ rest)

pub suffixes_are : (all : List Lexeme) (n : _) (k : Row_of-Suffix n) → suffix_row all k ≡ map (suffix_tree all) (items-the_row-Suffix n k)
suffixes_are all _ end_of-Suffix = refl
suffixes_are all _ (more_of-Suffix s rest) = ap (λ r. suffix_tree all s ∷ r) (suffixes_are all _ rest)

pub tree-Parenthesised : (all : List Lexeme) (s : Site) (a : Box Expression Global) → expression_tree all (V.Parenthesised s a) ≡ parenthesised s (expression_tree all a.value)
tree-Parenthesised all s a = search (rules, E.the_lemmas)

pub tree-Postfix : (all : List Lexeme) (first : Box Expression Global) (before : Vec Suffix Global) (last : Suffix) →
    expression_tree all (V.Postfix first before last) ≡ suffixed (all_suffixed (expression_tree all first.value) (map (suffix_tree all) before.items)) (suffix_tree all last)
tree-Postfix all first before last = search (rules, E.the_lemmas, suffixes_are)

pub tree-Prefixed : (all : List Lexeme) (o : Prefix) (s : Site) (a : Box Expression Global) → expression_tree all (V.Prefixed o s a) ≡ prefixed o s (expression_tree all a.value)
tree-Prefixed all o s a = search (rules, E.the_lemmas)

pub tree-Measure : (all : List Lexeme) (m : Measure) (s : Site) (a : Box Expression Global) → expression_tree all (V.Measure m s a) ≡ measure m s (expression_tree all a.value)
tree-Measure all m s a = search (rules, E.the_lemmas)

pub tree-Cast : (all : List Lexeme) (s : Site) (t : Span) (a : Box Expression Global) → expression_tree all (V.Cast s t a) ≡ cast s (held_in all t) (expression_tree all a.value)
tree-Cast all s t a = search (rules, E.the_lemmas)

pub tree-Binary : (all : List Lexeme) (first : Box Expression Global) (before : Vec Link Global) (o : Operator) (s : Site) (right : Box Expression Global) →
    expression_tree all (V.Binary first before o s right) ≡ binary o s (chained (expression_tree all first.value) (map (link_tree all) before.items)) (expression_tree all right.value)
tree-Binary all first before o s right = search (rules, E.the_lemmas, links_are)

pub tree-Choice : (all : List Lexeme) (s : Site) (a b c : Box Expression Global) → expression_tree all (V.Choice s a b c) ≡ choice s (expression_tree all a.value) (expression_tree all b.value) (expression_tree all c.value)
tree-Choice all s a b c = search (rules, E.the_lemmas)

pub tree-ChoiceOr : (all : List Lexeme) (s : Site) (a b : Box Expression Global) → expression_tree all (V.ChoiceOr s a b) ≡ choice_or s (expression_tree all a.value) (expression_tree all b.value)
tree-ChoiceOr all s a b = search (rules, E.the_lemmas)

pub tree-Assign : (all : List Lexeme) (o : Option Operator) (s : Site) (a b : Box Expression Global) → expression_tree all (V.Assign o s a b) ≡ assign o s (expression_tree all a.value) (expression_tree all b.value)
tree-Assign all o s a b = search (rules, E.the_lemmas)

pub suffix-Index : (all : List Lexeme) (s : Site) (a : Box Expression Global) → suffix_tree all (SV.Index s a) ≡ an_index s (expression_tree all a.value)
suffix-Index all s a = search (rules, S.the_lemmas)

pub suffix-Call : (all : List Lexeme) (s : Site) (es : Vec Expression Global) → suffix_tree all (SV.Call s es) ≡ a_call s (expressions_of (map (expression_tree all) es.items))
suffix-Call all s es = search (rules, S.the_lemmas, row_is)

pub ruleset trees =
    (tree-Parenthesised, tree-Postfix, tree-Prefixed, tree-Measure, tree-Cast, tree-Binary, tree-Choice, tree-ChoiceOr, tree-Assign, suffix-Index, suffix-Call)

-- ---- how chains grow

chained-more : (e : ExpressionTree) (links : List LinkTree) (l : LinkTree) → chained e (links ++ l ∷ []) ≡ binary l.operator l.site (chained e links) l.operand
chained-more e [] l = refl
chained-more e (k ∷ links) l = chained-more (binary k.operator k.site e k.operand) links l

suffixed-more : (e : ExpressionTree) (suffixes : List SuffixTree) (s : SuffixTree) → all_suffixed e (suffixes ++ s ∷ []) ≡ suffixed (all_suffixed e suffixes) s
suffixed-more e [] s = refl
suffixed-more e (k ∷ suffixes) s = suffixed-more (suffixed e k) suffixes s

-- what is to the left of an operator
pub binary-is : (all : List Lexeme) (first : Box Expression Global) (before : Vec Link Global) (o : Operator) (s : Site) (right : Box Expression Global) (left : ExpressionTree) (r : Expression) →
    chained (expression_tree all first.value) (map (link_tree all) before.items) ≡ left → right.value ≡ r →
    expression_tree all (V.Binary first before o s right) ≡ binary o s left (expression_tree all r)
binary-is all first before o s right left r is_left is_right =
    tree-Binary all first before o s right ∙ (ap (λ e. binary o s e (expression_tree all right.value)) is_left ∙ ap (λ x. binary o s left (expression_tree all x)) is_right)

-- a whole expression with an operator as the links of a longer chain
pub links-are-whole : (all : List Lexeme) (first : Box Expression Global) (before : Vec Link Global) (o : Operator) (s : Site) (right : Box Expression Global) (operand : Expression) (links : List Link) →
    operand ≡ right.value → links ≡ before.items ++ record { operator = o; site = s; operand = operand } ∷ [] →
    chained (expression_tree all first.value) (map (link_tree all) links) ≡ expression_tree all (V.Binary first before o s right)
links-are-whole all first before o s right operand links is_operand is_links =
    let l : Link = record { operator = o; site = s; operand = operand } in
    ap (λ ls. chained (expression_tree all first.value) (map (link_tree all) ls)) is_links
    ∙ (ap (chained (expression_tree all first.value)) (map-append (link_tree all) before.items (l ∷ []))
    ∙ (chained-more (expression_tree all first.value) (map (link_tree all) before.items) (link_tree all l)
    ∙ (ap (λ x. binary o s (chained (expression_tree all first.value) (map (link_tree all) before.items)) (expression_tree all x)) is_operand
    ∙ sym (tree-Binary all first before o s right))))

-- what a suffix stands after
pub suffixed-is : (all : List Lexeme) (first : Box Expression Global) (before : Vec Suffix Global) (last : Suffix) (left : ExpressionTree) →
    all_suffixed (expression_tree all first.value) (map (suffix_tree all) before.items) ≡ left → expression_tree all (V.Postfix first before last) ≡ suffixed left (suffix_tree all last)
suffixed-is all first before last left is_left = tree-Postfix all first before last ∙ ap (λ e. suffixed e (suffix_tree all last)) is_left

-- a whole postfix expression as the suffixes of a longer chain
pub suffixes-are-whole : (all : List Lexeme) (first : Box Expression Global) (before : Vec Suffix Global) (last : Suffix) (suffixes : List Suffix) →
    suffixes ≡ before.items ++ last ∷ [] → all_suffixed (expression_tree all first.value) (map (suffix_tree all) suffixes) ≡ expression_tree all (V.Postfix first before last)
suffixes-are-whole all first before last suffixes is_suffixes =
    ap (λ ss. all_suffixed (expression_tree all first.value) (map (suffix_tree all) ss)) is_suffixes
    ∙ (ap (all_suffixed (expression_tree all first.value)) (map-append (suffix_tree all) before.items (last ∷ []))
    ∙ (suffixed-more (expression_tree all first.value) (map (suffix_tree all) before.items) (suffix_tree all last)
    ∙ sym (tree-Postfix all first before last)))
