-- How chains of typed trees grow.
use Rattle.std.proofs.Common.{◌≡◌, ◌∷◌, ◌++◌, [], List, map, Box, Vec, Global, refl, ap, sym, ◌∙◌}
use Rattle.std.proofs.lemmas.List.{map-append}
use Rattle.px_base.specs.declared.trace.Site.{Site}
use Rattle.px_syntax.specs.declared.typed_expression.Arithmetic.{Arithmetic}
use Rattle.px_syntax.specs.declared.typed_expression.Relation.{Relation}
use Rattle.px_syntax.specs.declared.typed_expression.CellLink.{CellLink}
use Rattle.px_syntax.specs.declared.typed_expression.ArithmeticLink.{ArithmeticLink}
use Rattle.px_syntax.specs.declared.typed_expression.RelationLink.{RelationLink}
use Rattle.px_syntax.specs.declared.typed_expression.TypedExpression.{TypedExpression}
use Rattle.px_syntax.specs.declared.typed_expression.TypedExpression.TheVariants as E
use Rattle.px_syntax.specs.declared.typed_expression.Condition.{Condition}
use Rattle.px_syntax.specs.declared.typed_expression.Condition.TheVariants as C
use Rattle.px_syntax.specs.TypedTree.{Expression, Condition as Test, arithmetic, truth, cell, compare, both, either}
use Rattle.px_syntax.specs.TypedViews.{ArithmeticLinkTree, RelationLinkTree, typed_expression, typed_condition, arithmetic_link, relation_link, calculated, compared, cells, all_of, any_of}
use Rattle.px_syntax.proofs.TypedEquations.{typed-Arithmetic, typed-Cell, typed-Compare, typed-And, typed-Or}

-- one more link
pub calculated-more : (e : Expression) (links : List ArithmeticLinkTree) (l : ArithmeticLinkTree) →
    calculated e (links ++ l ∷ []) ≡ arithmetic l.operator (calculated e links) l.operand
calculated-more e [] l = refl
calculated-more e (k ∷ links) l = calculated-more (arithmetic k.operator e k.operand) links l

pub compared-more : (e : Expression) (links : List RelationLinkTree) (l : RelationLinkTree) →
    compared e (links ++ l ∷ []) ≡ truth (compare l.relation (compared e links) l.operand l.site)
compared-more e [] l = refl
compared-more e (k ∷ links) l = compared-more (truth (compare k.relation e k.operand k.site)) links l

pub cells-more : (e : Expression) (links : List CellLink) (l : CellLink) → cells e (links ++ l ∷ []) ≡ cell (cells e links) l.field l.block l.site
cells-more e [] l = refl
cells-more e (k ∷ links) l = cells-more (cell e k.field k.block k.site) links l

pub all_of-more : (c : Test) (cs : List Test) (d : Test) → all_of c (cs ++ d ∷ []) ≡ both (all_of c cs) d
all_of-more c [] d = refl
all_of-more c (b ∷ cs) d = all_of-more (both c b) cs d

pub any_of-more : (c : Test) (cs : List Test) (d : Test) → any_of c (cs ++ d ∷ []) ≡ either (any_of c cs) d
any_of-more c [] d = refl
any_of-more c (b ∷ cs) d = any_of-more (either c b) cs d

-- what is to the left of an operator
pub arithmetic-is : (first : Box TypedExpression Global) (before : Vec ArithmeticLink Global) (o : Arithmetic) (right : Box TypedExpression Global) (left : Expression) (r : TypedExpression) →
    calculated (typed_expression first.value) (map arithmetic_link before.items) ≡ left → right.value ≡ r →
    typed_expression (E.Arithmetic first before o right) ≡ arithmetic o left (typed_expression r)
arithmetic-is first before o right left r is_left is_right =
    typed-Arithmetic first before o right ∙ (ap (λ e. arithmetic o e (typed_expression right.value)) is_left ∙ ap (λ x. arithmetic o left (typed_expression x)) is_right)

pub compare-is : (first : Box TypedExpression Global) (before : Vec RelationLink Global) (relation : Relation) (right : Box TypedExpression Global) (s : Site) (left : Expression) (r : TypedExpression) →
    compared (typed_expression first.value) (map relation_link before.items) ≡ left → right.value ≡ r →
    typed_condition (C.Compare first before relation right s) ≡ compare relation left (typed_expression r) s
compare-is first before relation right s left r is_left is_right =
    typed-Compare first before relation right s ∙ (ap (λ e. compare relation e (typed_expression right.value) s) is_left ∙ ap (λ x. compare relation left (typed_expression x) s) is_right)

pub both-is : (first : Box Condition Global) (before : Vec Condition Global) (right : Box Condition Global) (left : Test) (r : Condition) →
    all_of (typed_condition first.value) (map typed_condition before.items) ≡ left → right.value ≡ r →
    typed_condition (C.And first before right) ≡ both left (typed_condition r)
both-is first before right left r is_left is_right =
    typed-And first before right ∙ (ap (λ c. both c (typed_condition right.value)) is_left ∙ ap (λ x. both left (typed_condition x)) is_right)

pub either-is : (first : Box Condition Global) (before : Vec Condition Global) (right : Box Condition Global) (left : Test) (r : Condition) →
    any_of (typed_condition first.value) (map typed_condition before.items) ≡ left → right.value ≡ r →
    typed_condition (C.Or first before right) ≡ either left (typed_condition r)
either-is first before right left r is_left is_right =
    typed-Or first before right ∙ (ap (λ c. either c (typed_condition right.value)) is_left ∙ ap (λ x. either left (typed_condition x)) is_right)

-- a whole with an operator as the links of a longer chain
pub arithmetic-links : (first : Box TypedExpression Global) (before : Vec ArithmeticLink Global) (o : Arithmetic) (right : Box TypedExpression Global) (operand : TypedExpression) (links : List ArithmeticLink) →
    operand ≡ right.value → links ≡ before.items ++ record { operator = o; operand = operand } ∷ [] →
    calculated (typed_expression first.value) (map arithmetic_link links) ≡ typed_expression (E.Arithmetic first before o right)
arithmetic-links first before o right operand links is_operand is_links =
    let l : ArithmeticLink = record { operator = o; operand = operand } in
    let e = typed_expression first.value in
    ap (λ ls. calculated e (map arithmetic_link ls)) is_links
    ∙ (ap (calculated e) (map-append arithmetic_link before.items (l ∷ []))
    ∙ (calculated-more e (map arithmetic_link before.items) (arithmetic_link l)
    ∙ (ap (λ x. arithmetic o (calculated e (map arithmetic_link before.items)) (typed_expression x)) is_operand
    ∙ sym (typed-Arithmetic first before o right))))

pub compare-links : (first : Box TypedExpression Global) (before : Vec RelationLink Global) (relation : Relation) (right : Box TypedExpression Global) (s : Site) (operand : TypedExpression) (links : List RelationLink) →
    operand ≡ right.value → links ≡ before.items ++ record { relation = relation; operand = operand; site = s } ∷ [] →
    compared (typed_expression first.value) (map relation_link links) ≡ truth (typed_condition (C.Compare first before relation right s))
compare-links first before relation right s operand links is_operand is_links =
    let l : RelationLink = record { relation = relation; operand = operand; site = s } in
    let e = typed_expression first.value in
    ap (λ ls. compared e (map relation_link ls)) is_links
    ∙ (ap (compared e) (map-append relation_link before.items (l ∷ []))
    ∙ (compared-more e (map relation_link before.items) (relation_link l)
    ∙ (ap (λ x. truth (compare relation (compared e (map relation_link before.items)) (typed_expression x) s)) is_operand
    ∙ sym (ap truth (typed-Compare first before relation right s)))))

pub both-links : (first : Box Condition Global) (before : Vec Condition Global) (right : Box Condition Global) (c : Condition) (cs : List Condition) →
    c ≡ right.value → cs ≡ before.items ++ c ∷ [] →
    all_of (typed_condition first.value) (map typed_condition cs) ≡ typed_condition (C.And first before right)
both-links first before right c cs is_c are_cs =
    let t = typed_condition first.value in
    ap (λ ls. all_of t (map typed_condition ls)) are_cs
    ∙ (ap (all_of t) (map-append typed_condition before.items (c ∷ []))
    ∙ (all_of-more t (map typed_condition before.items) (typed_condition c)
    ∙ (ap (λ x. both (all_of t (map typed_condition before.items)) (typed_condition x)) is_c
    ∙ sym (typed-And first before right))))

pub either-links : (first : Box Condition Global) (before : Vec Condition Global) (right : Box Condition Global) (c : Condition) (cs : List Condition) →
    c ≡ right.value → cs ≡ before.items ++ c ∷ [] →
    any_of (typed_condition first.value) (map typed_condition cs) ≡ typed_condition (C.Or first before right)
either-links first before right c cs is_c are_cs =
    let t = typed_condition first.value in
    ap (λ ls. any_of t (map typed_condition ls)) are_cs
    ∙ (ap (any_of t) (map-append typed_condition before.items (c ∷ []))
    ∙ (any_of-more t (map typed_condition before.items) (typed_condition c)
    ∙ (ap (λ x. either (any_of t (map typed_condition before.items)) (typed_condition x)) is_c
    ∙ sym (typed-Or first before right))))

pub ruleset cell_chains = (typed-Cell, cells-more)
