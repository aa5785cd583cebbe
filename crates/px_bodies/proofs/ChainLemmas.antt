-- Chains of operators and of arrows, one link after another.
use Rattle.std.proofs.Common.{◌≡◌, ◌∙◌, refl, sym, ap, ap₂, subst, ℕ, zero, suc, ◌+◌, ◌-◌, ◌<◌, ◌≤◌, List, [], ◌∷◌, map, take, drop, Option, Some, None, slice_get, get_or, length, arith}
use Rattle.std.proofs.lemmas.List.{map-append, drop_all, drop_more}
use Rattle.px_base.specs.declared.trace.Site.{Site}
use Rattle.px_syntax.specs.declared.expression.Arrow.{Arrow}
use Rattle.px_syntax.specs.declared.expression.Link.{Link}
use Rattle.px_syntax.specs.declared.expression.BinaryOperator.{BinaryOperator}
use Rattle.px_syntax.specs.declared.expression.Expression.{Expression}
use Rattle.px_syntax.specs.ExpressionTree.{ExpressionTree, LinkTree, binary, member, expression_tree, link_tree, chained, members}
use Rattle.px_syntax.proofs.ExpressionChains.{chained-more}
use Rattle.px_bodies.specs.declared.refusal.Refusal.{Refusal}
use Rattle.px_bodies.specs.declared.refusal.Refusal.TheVariants.{Rule, NoMemory}
use Rattle.px_bodies.specs.Types.{given}
use Rattle.px_bodies.specs.Environment.{Environment}
use Rattle.px_bodies.specs.Typed.{Typed, typed_arrow}
use Rattle.px_bodies.specs.Locals.{Local}
use Rattle.px_bodies.specs.Expressions.{typed, typed_binary, site_of}
use Rattle.px_bodies.specs.Outcomes.{Refuses}
use Rattle.px_bodies.proofs.ArgumentLemmas.{drop-next, drop-none}
use Rattle.px_bodies.proofs.PlaceLemmas.{last-is}

-- what isn't typed isn't, whatever the refusal
pub fails-along : {A B : Type 0} (r : Refusal) (o : Option A) (p : Option B) → (o ≡ None → p ≡ None) → Refuses r o → Refuses r p
fails-along Rule o p h f = h f
fails-along NoMemory o p h f = f

-- a chain stands at its last operator
pub site-after : (e : ExpressionTree) (links : List Link) (x : Link) → slice_get links (length links - 1) ≡ Some x → x.site ≡ site_of (chained e (map link_tree links))
site-after e links x h =
    let front = take (length links - 1) links in
    sym (ap (λ ls. site_of (chained e (map link_tree ls))) (last-is links x h)
    ∙ ap (λ ls. site_of (chained e ls)) (map-append link_tree front (x ∷ []))
    ∙ ap site_of (chained-more e (map link_tree front) (link_tree x)))

module _ (env : Environment) (visible : List Local) where
  -- what holds of that which the rules give for the tree of an expression
  pub by-tree : (P : Option Typed → Type 0) (e : Expression) (t : ExpressionTree) (x : Option Typed) → expression_tree e ≡ t → typed env visible t ≡ x
      → P x → P (typed env visible (expression_tree e))
  by-tree P e t x is g h = subst P (sym (ap (typed env visible) is ∙ g)) h

  -- an expression is refused with one of its parts
  pub by-part : {A : Type 0} (r : Refusal) (part : Option A) (e : Expression) (t : ExpressionTree) (x : Option Typed) → expression_tree e ≡ t → typed env visible t ≡ x
      → (part ≡ None → x ≡ None) → Refuses r part → Refuses r (typed env visible (expression_tree e))
  by-part r part e t x is g along h = by-tree (Refuses r) e t x is g (fails-along r part x along h)

  -- an operand at a token, with these links after it
  abbrev pub typed_links : Option Typed → Site → List LinkTree → Option Typed
  typed_links a at [] = a
  typed_links a at (l ∷ links) =
      typed_links (given a (λ x. given (typed env visible l.operand) (typed_binary l.operator l.site at (site_of l.operand) x))) l.site links

  links-of-none : (at : Site) (links : List LinkTree) → typed_links None at links ≡ None
  links-of-none at [] = refl
  links-of-none at (l ∷ links) = links-of-none l.site links

  chain-is : (e : ExpressionTree) (links : List LinkTree) → typed env visible (chained e links) ≡ typed_links (typed env visible e) (site_of e) links
  chain-is e [] = refl
  chain-is e (l ∷ links) = chain-is (binary l.operator l.site e l.operand) links

  -- the links after a typed operand are those after its tree
  pub links-are : (links : List Link) (e : ExpressionTree) (at : Site) (a : Typed) → typed env visible e ≡ Some a → site_of e ≡ at
      → typed env visible (chained e (map link_tree links)) ≡ typed_links (Some a) at (map link_tree links)
  links-are links e at a h s = chain-is e (map link_tree links) ∙ ap₂ (λ o t. typed_links o t (map link_tree links)) h s

  -- an untyped operand is untyped with links after it
  pub chain-untyped : (e : ExpressionTree) (links : List LinkTree) → typed env visible e ≡ None → typed env visible (chained e links) ≡ None
  chain-untyped e links h = chain-is e links ∙ ap (λ o. typed_links o (site_of e) links) h ∙ links-of-none (site_of e) links

  link-next : (links : List Link) (i : ℕ) (x : Link) (a : Typed) (at : Site) → i < length links → x ≡ get_or links i x
      → typed_links (Some a) at (map link_tree (drop i links))
      ≡ typed_links (given (typed env visible (expression_tree x.operand)) (typed_binary x.operator x.site at (site_of (expression_tree x.operand)) a)) x.site (map link_tree (drop (i + 1) links))
  link-next links i x a at l is = ap (typed_links (Some a) at) (drop-next link_tree links i x l is)

  -- one link is typed, and the others are left
  pub links-step : (links : List Link) (i : ℕ) (x : Link) (a b r : Typed) (at : Site) (all : Option Typed) → i < length links → x ≡ get_or links i x
      → typed env visible (expression_tree x.operand) ≡ Some b → typed_binary x.operator x.site at (site_of (expression_tree x.operand)) a b ≡ Some r
      → all ≡ typed_links (Some a) at (map link_tree (drop i links))
      → all ≡ typed_links (Some r) x.site (map link_tree (drop (i + 1) links))
  links-step links i x a b r at all l is h g before =
      before ∙ link-next links i x a at l is
      ∙ ap (λ o. typed_links (given o (typed_binary x.operator x.site at (site_of (expression_tree x.operand)) a)) x.site (map link_tree (drop (i + 1) links))) h
      ∙ ap (λ o. typed_links o x.site (map link_tree (drop (i + 1) links))) g

  -- an operand is refused
  pub links-untyped : (links : List Link) (i : ℕ) (x : Link) (a : Typed) (at : Site) (all : Option Typed) → i < length links → x ≡ get_or links i x
      → all ≡ typed_links (Some a) at (map link_tree (drop i links)) → typed env visible (expression_tree x.operand) ≡ None → all ≡ None
  links-untyped links i x a at all l is before h =
      before ∙ link-next links i x a at l is
      ∙ ap (λ o. typed_links (given o (typed_binary x.operator x.site at (site_of (expression_tree x.operand)) a)) x.site (map link_tree (drop (i + 1) links))) h
      ∙ links-of-none x.site (map link_tree (drop (i + 1) links))

  -- an operator is refused
  pub links-refused : (links : List Link) (i : ℕ) (x : Link) (a b : Typed) (at : Site) (all : Option Typed) → i < length links → x ≡ get_or links i x
      → typed env visible (expression_tree x.operand) ≡ Some b
      → all ≡ typed_links (Some a) at (map link_tree (drop i links)) → typed_binary x.operator x.site at (site_of (expression_tree x.operand)) a b ≡ None → all ≡ None
  links-refused links i x a b at all l is h before g =
      before ∙ link-next links i x a at l is
      ∙ ap (λ o. typed_links (given o (typed_binary x.operator x.site at (site_of (expression_tree x.operand)) a)) x.site (map link_tree (drop (i + 1) links))) h
      ∙ ap (λ o. typed_links o x.site (map link_tree (drop (i + 1) links))) g
      ∙ links-of-none x.site (map link_tree (drop (i + 1) links))

  -- no link is left
  pub links-end : (links : List Link) (i : ℕ) (a : Typed) (at : Site) → length links ≤ i → typed_links (Some a) at (map link_tree (drop i links)) ≡ Some a
  links-end links i a at l = ap (typed_links (Some a) at) (drop-none link_tree links i l)

  -- an operator between operands
  pub binary-untyped : (o : BinaryOperator) (s : Site) (left right : ExpressionTree) → typed env visible left ≡ None → typed env visible (binary o s left right) ≡ None
  binary-untyped o s left right h = ap (λ l. given l (λ x. given (typed env visible right) (typed_binary o s (site_of left) (site_of right) x))) h

  pub binary-typed : (o : BinaryOperator) (s : Site) (left right : ExpressionTree) (a b : Typed) → typed env visible left ≡ Some a → typed env visible right ≡ Some b
      → typed env visible (binary o s left right) ≡ typed_binary o s (site_of left) (site_of right) a b
  binary-typed o s left right a b h g =
      ap (λ l. given l (λ x. given (typed env visible right) (typed_binary o s (site_of left) (site_of right) x))) h
      ∙ ap (λ r. given r (typed_binary o s (site_of left) (site_of right) a)) g

-- ---- arrows

module _ (env : Environment) where
  -- a pointer with these arrows after it
  abbrev pub typed_path : Option Typed → List Arrow → Option Typed
  typed_path a [] = a
  typed_path a (x ∷ path) = typed_path (given a (typed_arrow env x.field x.site)) path

  path-of-none : (path : List Arrow) → typed_path None path ≡ None
  path-of-none [] = refl
  path-of-none (x ∷ path) = path-of-none path

  path-is : (visible : List Local) (e : ExpressionTree) (path : List Arrow) → typed env visible (members e path) ≡ typed_path (typed env visible e) path
  path-is visible e [] = refl
  path-is visible e (x ∷ path) = path-is visible (member e x.field x.site) path

  -- the arrows after a typed pointer are those after its tree
  pub arrows-are : (visible : List Local) (path : List Arrow) (e : ExpressionTree) (a : Typed) → typed env visible e ≡ Some a
      → typed env visible (members e path) ≡ typed_path (Some a) path
  arrows-are visible path e a h = path-is visible e path ∙ ap (λ o. typed_path o path) h

  -- an untyped pointer is untyped with arrows after it
  pub path-untyped : (visible : List Local) (e : ExpressionTree) (path : List Arrow) → typed env visible e ≡ None → typed env visible (members e path) ≡ None
  path-untyped visible e path h = path-is visible e path ∙ ap (λ o. typed_path o path) h ∙ path-of-none path

  pub member-untyped : (visible : List Local) (e : ExpressionTree) (f : List ℕ) (s : Site) → typed env visible e ≡ None → typed env visible (member e f s) ≡ None
  member-untyped visible e f s h = ap (λ o. given o (typed_arrow env f s)) h

  -- what is left after i arrows, with the next of them
  arrow-next : (path : List Arrow) (i : ℕ) (x : Arrow) → i < length path → x ≡ get_or path i x → drop i path ≡ x ∷ drop (i + 1) path
  arrow-next path i x l is = drop_more path i x l ∙ ap (λ z. z ∷ drop (i + 1) path) (sym is)

  -- one arrow is typed, and the others are left
  pub arrows-step : (path : List Arrow) (i : ℕ) (x : Arrow) (a r : Typed) (all : Option Typed) → i < length path → x ≡ get_or path i x
      → typed_arrow env x.field x.site a ≡ Some r → all ≡ typed_path (Some a) (drop i path) → all ≡ typed_path (Some r) (drop (i + 1) path)
  arrows-step path i x a r all l is g before =
      before ∙ ap (typed_path (Some a)) (arrow-next path i x l is) ∙ ap (λ o. typed_path o (drop (i + 1) path)) g

  -- an arrow is refused
  pub arrows-refused : (path : List Arrow) (i : ℕ) (x : Arrow) (a : Typed) (all : Option Typed) → i < length path → x ≡ get_or path i x
      → all ≡ typed_path (Some a) (drop i path) → typed_arrow env x.field x.site a ≡ None → all ≡ None
  arrows-refused path i x a all l is before g =
      before ∙ ap (typed_path (Some a)) (arrow-next path i x l is) ∙ ap (λ o. typed_path o (drop (i + 1) path)) g ∙ path-of-none (drop (i + 1) path)

  -- no arrow is left
  pub arrows-end : (path : List Arrow) (i : ℕ) (a : Typed) → length path ≤ i → typed_path (Some a) (drop i path) ≡ Some a
  arrows-end path i a l = ap (typed_path (Some a)) (drop_all i path l)
