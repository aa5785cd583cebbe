-- Typed trees with children in a `Vec`, as the code sees them: by what it borrowed of their parts.
use Rattle.std.proofs.Common.{◌≡◌, ◌∙◌, ℕ, sym, ap, ap₂, map, List, Box, Vec, Global}
use Rattle.px_base.specs.declared.trace.Site.{Site}
use Rattle.px_base.specs.declared.trace.ProcId.{ProcId}
use Rattle.px_base.specs.declared.trace.FieldId.{FieldId}
use Rattle.px_terms.specs.declared.types.TypeId.{TypeId}
use Rattle.px_terms.specs.declared.types.ValueType.{ValueType}
use Rattle.px_syntax.specs.declared.typed_expression.CellLink.{CellLink}
use Rattle.px_syntax.specs.declared.typed_expression.Arithmetic.{Arithmetic}
use Rattle.px_syntax.specs.declared.typed_expression.Relation.{Relation}
use Rattle.px_syntax.specs.declared.typed_expression.ArithmeticLink.{ArithmeticLink}
use Rattle.px_syntax.specs.declared.typed_expression.RelationLink.{RelationLink}
use Rattle.px_syntax.specs.declared.typed_expression.Argument.{Argument}
use Rattle.px_syntax.specs.declared.typed_expression.Argument.TheVariants as A
use Rattle.px_syntax.specs.declared.typed_expression.TypedExpression.{TypedExpression}
use Rattle.px_syntax.specs.declared.typed_expression.TypedExpression.TheVariants as E
use Rattle.px_syntax.specs.declared.typed_expression.Condition.{Condition}
use Rattle.px_syntax.specs.declared.typed_expression.Condition.TheVariants as C
use Rattle.px_syntax.specs.TypedTree.{arithmetic, cell, call, erased, stop, compare, both, either, expressions_of, arguments_of}
use Rattle.px_syntax.specs.TypedViews.{typed_expression, typed_argument, typed_condition, arithmetic_link, relation_link, calculated, compared, cells, all_of, any_of}
use Rattle.px_syntax.proofs.TypedEquations.{typed-Arithmetic, typed-Cell, typed-Call, typed-Erased, typed-Stop, typed-Compare, typed-And, typed-Or}

pub arithmetic_seen : (e f r : TypedExpression) (links : List ArithmeticLink) (first : Box TypedExpression Global) (before : Vec ArithmeticLink Global) (op : Arithmetic) (right : Box TypedExpression Global) →
    e ≡ E.Arithmetic first before op right → f ≡ first.value → links ≡ before.items → r ≡ right.value →
    typed_expression e ≡ arithmetic op (calculated (typed_expression f) (map arithmetic_link links)) (typed_expression r)
arithmetic_seen e f r links first before op right is is_f is_links is_r =
    ap typed_expression is ∙ (typed-Arithmetic first before op right
    ∙ sym (ap₂ (λ a b. arithmetic op a (typed_expression b)) (ap₂ (λ a ls. calculated (typed_expression a) (map arithmetic_link ls)) is_f is_links) is_r))

pub call_seen : (e : TypedExpression) (es : List Argument) (proc : ProcId) (arguments : Vec Argument Global) (type : ValueType) (site : Site) →
    e ≡ E.Call proc arguments type site → es ≡ arguments.items → typed_expression e ≡ call proc (arguments_of (map typed_argument es)) type site
call_seen e es proc arguments type site is is_es =
    ap typed_expression is ∙ (typed-Call proc arguments type site ∙ sym (ap (λ ls. call proc (arguments_of (map typed_argument ls)) type site) is_es))

pub erased_seen : (a : Argument) (es : List TypedExpression) (row : Vec TypedExpression Global) → a ≡ A.Erased row → es ≡ row.items → typed_argument a ≡ erased (expressions_of (map typed_expression es))
erased_seen a es row is is_es = ap typed_argument is ∙ (typed-Erased row ∙ sym (ap (λ ls. erased (expressions_of (map typed_expression ls))) is_es))

pub compare_seen : (c : Condition) (f r : TypedExpression) (links : List RelationLink) (first : Box TypedExpression Global) (before : Vec RelationLink Global) (relation : Relation) (right : Box TypedExpression Global) (site : Site) →
    c ≡ C.Compare first before relation right site → f ≡ first.value → links ≡ before.items → r ≡ right.value →
    typed_condition c ≡ compare relation (compared (typed_expression f) (map relation_link links)) (typed_expression r) site
compare_seen c f r links first before relation right site is is_f is_links is_r =
    ap typed_condition is ∙ (typed-Compare first before relation right site
    ∙ sym (ap₂ (λ a b. compare relation a (typed_expression b) site) (ap₂ (λ a ls. compared (typed_expression a) (map relation_link ls)) is_f is_links) is_r))

pub both_seen : (c f r : Condition) (links : List Condition) (first : Box Condition Global) (before : Vec Condition Global) (right : Box Condition Global) →
    c ≡ C.And first before right → f ≡ first.value → links ≡ before.items → r ≡ right.value →
    typed_condition c ≡ both (all_of (typed_condition f) (map typed_condition links)) (typed_condition r)
both_seen c f r links first before right is is_f is_links is_r =
    ap typed_condition is ∙ (typed-And first before right ∙ sym (ap₂ (λ a b. both a (typed_condition b)) (ap₂ (λ a ls. all_of (typed_condition a) (map typed_condition ls)) is_f is_links) is_r))

pub either_seen : (c f r : Condition) (links : List Condition) (first : Box Condition Global) (before : Vec Condition Global) (right : Box Condition Global) →
    c ≡ C.Or first before right → f ≡ first.value → links ≡ before.items → r ≡ right.value →
    typed_condition c ≡ either (any_of (typed_condition f) (map typed_condition links)) (typed_condition r)
either_seen c f r links first before right is is_f is_links is_r =
    ap typed_condition is ∙ (typed-Or first before right ∙ sym (ap₂ (λ a b. either a (typed_condition b)) (ap₂ (λ a ls. any_of (typed_condition a) (map typed_condition ls)) is_f is_links) is_r))

pub cell_seen : (e f : TypedExpression) (links : List CellLink) (first : Box TypedExpression Global) (before : Vec CellLink Global) (field : FieldId) (block : TypeId) (site : Site) →
    e ≡ E.Cell first before field block site → f ≡ first.value → links ≡ before.items → typed_expression e ≡ cell (cells (typed_expression f) links) field block site
cell_seen e f links first before field block site is is_f is_links =
    ap typed_expression is ∙ (typed-Cell first before field block site ∙ sym (ap₂ (λ a ls. cell (cells (typed_expression a) ls) field block site) is_f is_links))

pub stop_seen : (e : TypedExpression) (es : List TypedExpression) (number : ℕ) (site : Site) (parts : Vec TypedExpression Global) →
    e ≡ E.Stop number site parts → es ≡ parts.items → typed_expression e ≡ stop number site (expressions_of (map typed_expression es))
stop_seen e es number site parts is is_es = ap typed_expression is ∙ (typed-Stop number site parts ∙ sym (ap (λ ls. stop number site (expressions_of (map typed_expression ls))) is_es))
