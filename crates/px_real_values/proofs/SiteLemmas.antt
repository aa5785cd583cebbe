-- What stands behind an expression leaves its first token, and makes it no constant and no size.
use Rattle.std.proofs.Common.{◌≡◌, ◌∙◌, ◌⊎◌, inl, inr, refl, sym, ap, false, List, [], ◌∷◌, map, None, Box, Vec, Global}
use Rattle.px_base.specs.declared.trace.Site.{Site}
use Rattle.px_real_expressions.specs.declared.operators.Operator.{Operator}
use Rattle.px_real_expressions.specs.Lexemes.{Lexeme}
use Rattle.px_real_expressions.specs.ExpressionTree.{ExpressionTree, binary}
use Rattle.px_real_reading.specs.declared.tree.Link.{Link}
use Rattle.px_real_reading.specs.declared.tree.Suffix.{Suffix}
use Rattle.px_real_reading.specs.declared.tree.Expression.{Expression}
use Rattle.px_real_reading.specs.declared.tree.Expression.TheVariants as V
use Rattle.px_real_reading.specs.Trees.{LinkTree, SuffixTree, an_index, a_call, a_member, a_pointer_member, a_step, expression_tree, suffix_tree, link_tree, chained, suffixed, all_suffixed}
use Rattle.px_real_reading.proofs.TreeEquations.{tree-Postfix, tree-Binary}
use Rattle.px_real_values.specs.Environment.{Environment}
use Rattle.px_real_values.specs.Values.{first_site, is_zero, measured}

site_before : (e : ExpressionTree) (s : SuffixTree) → first_site (suffixed e s) ≡ first_site e
site_before e (an_index s a) = refl
site_before e (a_call s es) = refl
site_before e (a_member s f) = refl
site_before e (a_pointer_member s f) = refl
site_before e (a_step o s) = refl

site_before_all : (e : ExpressionTree) (ss : List SuffixTree) → first_site (all_suffixed e ss) ≡ first_site e
site_before_all e [] = refl
site_before_all e (s ∷ ss) = site_before_all (suffixed e s) ss ∙ site_before e s

site_before_links : (e : ExpressionTree) (ls : List LinkTree) → first_site (chained e ls) ≡ first_site e
site_before_links e [] = refl
site_before_links e (l ∷ ls) = site_before_links (binary l.operator l.site e l.operand) ls

never_zero : (e : ExpressionTree) (s : SuffixTree) → is_zero (suffixed e s) ≡ false
never_zero e (an_index s a) = refl
never_zero e (a_call s es) = refl
never_zero e (a_member s f) = refl
never_zero e (a_pointer_member s f) = refl
never_zero e (a_step o s) = refl

never_size : (env : Environment) (e : ExpressionTree) (s : SuffixTree) → measured env (suffixed e s) ≡ None
never_size env e (an_index s a) = refl
never_size env e (a_call s es) = refl
never_size env e (a_member s f) = refl
never_size env e (a_pointer_member s f) = refl
never_size env e (a_step o s) = refl

module _ (all : List Lexeme) (first : Box Expression Global) (before : Vec Suffix Global) (last : Suffix) where
  pub site-Postfix : first_site (expression_tree all (V.Postfix first before last)) ≡ first_site (expression_tree all first.value)
  site-Postfix =
      let left = all_suffixed (expression_tree all first.value) (map (suffix_tree all) before.items) in
      ap first_site (tree-Postfix all first before last) ∙ site_before left (suffix_tree all last) ∙ site_before_all (expression_tree all first.value) (map (suffix_tree all) before.items)

  pub zero-Postfix : is_zero (expression_tree all (V.Postfix first before last)) ≡ false
  zero-Postfix = ap is_zero (tree-Postfix all first before last) ∙ never_zero (all_suffixed (expression_tree all first.value) (map (suffix_tree all) before.items)) (suffix_tree all last)

  pub size-Postfix : (env : Environment) → measured env (expression_tree all (V.Postfix first before last)) ≡ None
  size-Postfix env = ap (measured env) (tree-Postfix all first before last) ∙ never_size env (all_suffixed (expression_tree all first.value) (map (suffix_tree all) before.items)) (suffix_tree all last)

pub site-Binary : (all : List Lexeme) (first : Box Expression Global) (before : Vec Link Global) (o : Operator) (s : Site) (right : Box Expression Global) →
    first_site (expression_tree all (V.Binary first before o s right)) ≡ first_site (expression_tree all first.value)
site-Binary all first before o s right = ap first_site (tree-Binary all first before o s right) ∙ site_before_links (expression_tree all first.value) (map (link_tree all) before.items)

-- what begins with another expression begins with its first token
pub site-first : (all : List Lexeme) (e : Expression) (first : Box Expression Global) →
    ((before : Vec Suffix Global) × (last : Suffix) × (e ≡ V.Postfix first before last)) ⊎
    ((before : Vec Link Global) × (o : Operator) × (s : Site) × (right : Box Expression Global) × (e ≡ V.Binary first before o s right)) →
    first_site (expression_tree all first.value) ≡ first_site (expression_tree all e)
site-first all e first (inl (before, last, is)) = sym (ap (λ z. first_site (expression_tree all z)) is ∙ site-Postfix all first before last)
site-first all e first (inr (before, o, s, right, is)) = sym (ap (λ z. first_site (expression_tree all z)) is ∙ site-Binary all first before o s right)

pub ruleset chains = (site-Postfix, site-Binary, zero-Postfix, size-Postfix)
