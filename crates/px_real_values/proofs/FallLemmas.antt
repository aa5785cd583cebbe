-- What stands in an expression is smaller than it.
use Rattle.std.proofs.Common.{◌≡◌, ◌∙◌, refl, ap, ℕ, zero, suc, ◌+◌, ◌*◌, ◌<◌, ◌≤◌, List, [], ◌∷◌, map, length, get_or, Option, Box, Vec, Global, arith}
use Rattle.px_base.specs.declared.trace.Site.{Site}
use Rattle.px_real_expressions.specs.declared.operators.Prefix.{Prefix}
use Rattle.px_real_expressions.specs.declared.operators.Operator.{Operator}
use Rattle.px_real_expressions.specs.declared.operators.Measure.{Measure}
use Rattle.px_real_expressions.specs.Lexemes.{Lexeme}
use Rattle.px_real_expressions.specs.ExpressionTree.{ExpressionTree, ExpressionTrees, parenthesised, index, call, member, pointer_member, step, prefixed, measure, cast, binary, choice, choice_or, assign, no_expressions, an_expression, expressions_of}
use Rattle.px_real_symbols.specs.declared.held.Span.{Span}
use Rattle.px_real_reading.specs.declared.tree.Link.{Link}
use Rattle.px_real_reading.specs.declared.tree.Suffix.{Suffix}
use Rattle.px_real_reading.specs.declared.tree.Suffix.TheVariants as SV
use Rattle.px_real_reading.specs.declared.tree.Expression.{Expression}
use Rattle.px_real_reading.specs.declared.tree.Expression.TheVariants as V
use Rattle.px_real_reading.specs.Trees.{LinkTree, SuffixTree, an_index, a_call, a_member, a_pointer_member, a_step, expression_tree, suffix_tree, link_tree, chained, suffixed, all_suffixed}
use Rattle.px_real_reading.proofs.TreeEquations.{tree-Parenthesised, tree-Postfix, tree-Prefixed, tree-Measure, tree-Cast, tree-Binary, tree-Choice, tree-ChoiceOr, tree-Assign, suffix-Index, suffix-Call}

-- ---- how many expressions there are

abbrev mutual
  pub size : ExpressionTree → ℕ
  size (parenthesised site e) = 1 + size e
  size (index site a i) = 1 + (size a + size i)
  size (call site f es) = 1 + (size f + sizes es)
  size (member site e field) = 1 + (size e + 0)
  size (pointer_member site e field) = 1 + (size e + 0)
  size (step o site e) = 1 + (size e + 0)
  size (prefixed p site e) = 1 + size e
  size (measure m site e) = 1 + size e
  size (cast site held e) = 1 + size e
  size (binary o site a b) = 1 + (size a + size b)
  size (choice site c a b) = 1 + (size c + (size a + size b))
  size (choice_or site c b) = 1 + (size c + size b)
  size (assign o site a b) = 1 + (size a + size b)
  size _ = 1

  pub sizes : ExpressionTrees → ℕ
  sizes no_expressions = 0
  sizes (an_expression e rest) = size e + sizes rest

abbrev suffix_size : SuffixTree → ℕ
suffix_size (an_index site a) = size a
suffix_size (a_call site es) = sizes es
suffix_size _ = 0

abbrev suffixes_size : List SuffixTree → ℕ
suffixes_size [] = 0
suffixes_size (s ∷ ss) = suffix_size s + suffixes_size ss

abbrev links_size : List LinkTree → ℕ
links_size [] = 0
links_size (l ∷ ls) = size l.operand + links_size ls

size_suffixed : (e : ExpressionTree) (s : SuffixTree) → size (suffixed e s) ≡ 1 + (size e + suffix_size s)
size_suffixed e (an_index site a) = refl
size_suffixed e (a_call site es) = refl
size_suffixed e (a_member site field) = refl
size_suffixed e (a_pointer_member site field) = refl
size_suffixed e (a_step o site) = refl

size_all_suffixed : (e : ExpressionTree) (ss : List SuffixTree) → size e + suffixes_size ss ≤ size (all_suffixed e ss)
size_all_suffixed e [] = omega arith
size_all_suffixed e (s ∷ ss) = let later = size_all_suffixed (suffixed e s) ss in let here = size_suffixed e s in omega (arith, later, here)

size_chained : (e : ExpressionTree) (ls : List LinkTree) → size e + links_size ls ≤ size (chained e ls)
size_chained e [] = omega arith
size_chained e (l ∷ ls) = let later = size_chained (binary l.operator l.site e l.operand) ls in omega (arith, later)

-- ---- in the trees of the code

module _ (all : List Lexeme) where
  abbrev pub weight : Expression → ℕ
  weight e = size (expression_tree all e)

  abbrev pub row_weight : List Expression → ℕ
  row_weight es = sizes (expressions_of (map (expression_tree all) es))

  abbrev pub suffix_weight : Suffix → ℕ
  suffix_weight s = suffix_size (suffix_tree all s)

  abbrev pub suffixes_weight : List Suffix → ℕ
  suffixes_weight ss = suffixes_size (map (suffix_tree all) ss)

  abbrev pub links_weight : List Link → ℕ
  links_weight ls = links_size (map (link_tree all) ls)

  -- one of several
  one_of : (es : List Expression) (i : ℕ) (d : Expression) → i < length es → weight (get_or es i d) ≤ row_weight es
  one_of [] i d l = absurd (omega arith)
  one_of (e ∷ es) zero d l = omega arith
  one_of (e ∷ es) (suc i) d l = let later = one_of es i d (omega (arith, l)) in omega (arith, later)

  one_suffix : (ss : List Suffix) (i : ℕ) (d : Suffix) → i < length ss → suffix_weight (get_or ss i d) ≤ suffixes_weight ss
  one_suffix [] i d l = absurd (omega arith)
  one_suffix (s ∷ ss) zero d l = omega arith
  one_suffix (s ∷ ss) (suc i) d l = let later = one_suffix ss i d (omega (arith, l)) in omega (arith, later)

  one_link : (ls : List Link) (i : ℕ) (d : Link) → i < length ls → weight ((get_or ls i d).operand) ≤ links_weight ls
  one_link [] i d l = absurd (omega arith)
  one_link (x ∷ ls) zero d l = omega arith
  one_link (x ∷ ls) (suc i) d l = let later = one_link ls i d (omega (arith, l)) in omega (arith, later)

  pub item_falls : (t i : ℕ) (es : List Expression) (x : Expression) → 8 * row_weight es + 1 ≡ t → i < length es → x ≡ get_or es i x → 8 * weight x < t
  item_falls t i es x bound l is = let one = one_of es i x l in let same : weight x ≡ weight (get_or es i x) = ap weight is in omega (arith, bound, one, same)

  pub suffix_falls : (t i : ℕ) (ss : List Suffix) (s : Suffix) → 8 * suffixes_weight ss + 4 ≡ t → i < length ss → s ≡ get_or ss i s → 8 * suffix_weight s + 3 < t
  suffix_falls t i ss s bound l is = let one = one_suffix ss i s l in let same : suffix_weight s ≡ suffix_weight (get_or ss i s) = ap suffix_weight is in omega (arith, bound, one, same)

  pub link_falls : (t i : ℕ) (ls : List Link) (x : Link) → 8 * links_weight ls + 2 ≡ t → i < length ls → x ≡ get_or ls i x → 8 * weight x.operand + 1 < t
  link_falls t i ls x bound l is = let one = one_link ls i x l in let same : weight x.operand ≡ weight ((get_or ls i x).operand) = ap (λ y. weight y.operand) is in omega (arith, bound, one, same)

  -- what stands in an expression
  pub operand_falls : (t : ℕ) (e v x w : Expression) → 8 * weight e ≡ t → e ≡ v → x ≡ w → weight w < weight v → 8 * weight x + 1 < t
  operand_falls t e v x w bound is same less = let whole : weight e ≡ weight v = ap weight is in let part : weight x ≡ weight w = ap weight same in omega (arith, bound, whole, part, less)

  pub falls : (t : ℕ) (e v x w : Expression) → 8 * weight e ≡ t → e ≡ v → x ≡ w → weight w < weight v → 8 * weight x < t
  falls t e v x w bound is same less = let here = operand_falls t e v x w bound is same less in omega (arith, here)

  pub suffixes_fall : (t : ℕ) (e v : Expression) (ss us : List Suffix) → 8 * weight e ≡ t → e ≡ v → ss ≡ us → suffixes_weight us < weight v → 8 * suffixes_weight ss + 4 < t
  suffixes_fall t e v ss us bound is same less =
      let whole : weight e ≡ weight v = ap weight is in let part : suffixes_weight ss ≡ suffixes_weight us = ap suffixes_weight same in omega (arith, bound, whole, part, less)

  pub last_falls : (t : ℕ) (e v : Expression) (s : Suffix) → 8 * weight e ≡ t → e ≡ v → suffix_weight s < weight v → 8 * suffix_weight s + 3 < t
  last_falls t e v s bound is less = let whole : weight e ≡ weight v = ap weight is in omega (arith, bound, whole, less)

  pub links_fall : (t : ℕ) (e v : Expression) (ls ks : List Link) → 8 * weight e ≡ t → e ≡ v → ls ≡ ks → links_weight ks < weight v → 8 * links_weight ls + 2 < t
  links_fall t e v ls ks bound is same less =
      let whole : weight e ≡ weight v = ap weight is in let part : links_weight ls ≡ links_weight ks = ap links_weight same in omega (arith, bound, whole, part, less)

  pub parenthesised_less : (s : Site) (a : Box Expression Global) → weight a.value < weight (V.Parenthesised s a)
  parenthesised_less s a = let whole = ap size (tree-Parenthesised all s a) in omega (arith, whole)

  pub prefixed_less : (o : Prefix) (s : Site) (a : Box Expression Global) → weight a.value < weight (V.Prefixed o s a)
  prefixed_less o s a = let whole = ap size (tree-Prefixed all o s a) in omega (arith, whole)

  pub measure_less : (m : Measure) (s : Site) (a : Box Expression Global) → weight a.value < weight (V.Measure m s a)
  measure_less m s a = let whole = ap size (tree-Measure all m s a) in omega (arith, whole)

  pub cast_less : (s : Site) (held : Span) (a : Box Expression Global) → weight a.value < weight (V.Cast s held a)
  cast_less s held a = let whole = ap size (tree-Cast all s held a) in omega (arith, whole)

  pub choice_less : (s : Site) (a b c : Box Expression Global) → weight a.value < weight (V.Choice s a b c)
  choice_less s a b c = let whole = ap size (tree-Choice all s a b c) in omega (arith, whole)

  pub choice_or_less : (s : Site) (a b : Box Expression Global) → weight a.value < weight (V.ChoiceOr s a b)
  choice_or_less s a b = let whole = ap size (tree-ChoiceOr all s a b) in omega (arith, whole)

  pub assign_less : (o : Option Operator) (s : Site) (a b : Box Expression Global) → weight a.value < weight (V.Assign o s a b)
  assign_less o s a b = let whole = ap size (tree-Assign all o s a b) in omega (arith, whole)

  module _ (first : Box Expression Global) (before : Vec Suffix Global) (last : Suffix) where
    postfix_size : weight first.value + suffixes_weight before.items + suffix_weight last < weight (V.Postfix first before last)
    postfix_size =
        let left = all_suffixed (expression_tree all first.value) (map (suffix_tree all) before.items) in
        let whole = ap size (tree-Postfix all first before last) ∙ size_suffixed left (suffix_tree all last) in
        let chain = size_all_suffixed (expression_tree all first.value) (map (suffix_tree all) before.items) in
        omega (arith, whole, chain)

    pub first_less : weight first.value < weight (V.Postfix first before last)
    first_less = omega (arith, postfix_size)

    pub before_less : suffixes_weight before.items < weight (V.Postfix first before last)
    before_less = omega (arith, postfix_size)

    pub last_less : suffix_weight last < weight (V.Postfix first before last)
    last_less = omega (arith, postfix_size)

  module _ (first : Box Expression Global) (before : Vec Link Global) (o : Operator) (s : Site) (right : Box Expression Global) where
    binary_size : weight first.value + links_weight before.items + weight right.value < weight (V.Binary first before o s right)
    binary_size =
        let whole = ap size (tree-Binary all first before o s right) in
        let chain = size_chained (expression_tree all first.value) (map (link_tree all) before.items) in
        omega (arith, whole, chain)

    pub left_less : weight first.value < weight (V.Binary first before o s right)
    left_less = omega (arith, binary_size)

    pub links_less : links_weight before.items < weight (V.Binary first before o s right)
    links_less = omega (arith, binary_size)

    pub right_less : weight right.value < weight (V.Binary first before o s right)
    right_less = omega (arith, binary_size)

  -- what stands in a suffix
  pub index_falls : (t : ℕ) (s : Suffix) (site : Site) (a : Box Expression Global) (x : Expression) → 8 * suffix_weight s + 3 ≡ t → s ≡ SV.Index site a → x ≡ a.value → 8 * weight x + 1 < t
  index_falls t s site a x bound is same =
      let whole : suffix_weight s ≡ weight a.value = ap suffix_size (ap (suffix_tree all) is ∙ suffix-Index all site a) in let part : weight x ≡ weight a.value = ap weight same in omega (arith, bound, whole, part)

  pub arguments_fall : (t : ℕ) (s : Suffix) (site : Site) (es : Vec Expression Global) (xs : List Expression) → 8 * suffix_weight s + 3 ≡ t → s ≡ SV.Call site es → xs ≡ es.items → 8 * row_weight xs + 2 < t
  arguments_fall t s site es xs bound is same =
      let whole : suffix_weight s ≡ row_weight es.items = ap suffix_size (ap (suffix_tree all) is ∙ suffix-Call all site es) in let part : row_weight xs ≡ row_weight es.items = ap row_weight same in omega (arith, bound, whole, part)
