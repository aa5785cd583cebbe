-- The equations of typed trees with children in a `Vec`; the others compute.
use Rattle.std.proofs.Common.{◌≡◌, ℕ, ◌∷◌, map, Box, Vec, Global, refl, ap, rules}
use Rattle.px_base.specs.declared.trace.Site.{Site}
use Rattle.px_base.specs.declared.trace.ProcId.{ProcId}
use Rattle.px_base.specs.declared.trace.FieldId.{FieldId}
use Rattle.px_terms.specs.declared.types.TypeId.{TypeId}
use Rattle.px_terms.specs.declared.types.ValueType.{ValueType}
use Rattle.px_syntax.specs.declared.typed_expression.Arithmetic.{Arithmetic}
use Rattle.px_syntax.specs.declared.typed_expression.Relation.{Relation}
use Rattle.px_syntax.specs.declared.typed_expression.CellLink.{CellLink}
use Rattle.px_syntax.specs.declared.typed_expression.ArithmeticLink.{ArithmeticLink}
use Rattle.px_syntax.specs.declared.typed_expression.RelationLink.{RelationLink}
use Rattle.px_syntax.specs.declared.typed_expression.TypedExpression.{TypedExpression, Row_of-TypedExpression, end_of-TypedExpression, more_of-TypedExpression, items-the_row-TypedExpression, Row_of-ArithmeticLink, end_of-ArithmeticLink, more_of-ArithmeticLink, items-the_row-ArithmeticLink, Row_of-Argument, end_of-Argument, more_of-Argument, items-the_row-Argument}
use Rattle.px_syntax.specs.declared.typed_expression.TypedExpression as E
use Rattle.px_syntax.specs.declared.typed_expression.TypedExpression.TheVariants as Expressions
use Rattle.px_syntax.specs.declared.typed_expression.Argument.{Argument}
use Rattle.px_syntax.specs.declared.typed_expression.Argument as A
use Rattle.px_syntax.specs.declared.typed_expression.Argument.TheVariants as Arguments
use Rattle.px_syntax.specs.declared.typed_expression.Condition.{Condition, Row_of-RelationLink, end_of-RelationLink, more_of-RelationLink, items-the_row-RelationLink, Row_of-Condition, end_of-Condition, more_of-Condition, items-the_row-Condition}
use Rattle.px_syntax.specs.declared.typed_expression.Condition as C
use Rattle.px_syntax.specs.declared.typed_expression.Condition.TheVariants as Conditions
use Rattle.px_syntax.specs.declared.typed_statement.TypedStatement.{TypedStatement, Row_of-TypedStatement, end_of-TypedStatement, more_of-TypedStatement, items-the_row-TypedStatement}
use Rattle.px_syntax.specs.declared.typed_statement.TypedStatement as S
use Rattle.px_syntax.specs.declared.typed_statement.TypedStatement.TheVariants as Statements
use Rattle.px_syntax.specs.TypedTree.{an_expression, an_argument, erased, a_statement, expressions_of, arguments_of, statements_of, call, stop, block, arithmetic, cell, compare, both, either}
use Rattle.px_syntax.specs.TypedViews.{typed_expression, typed_row, typed_argument, typed_arguments, typed_condition, typed_statement, typed_rows, arithmetic_row, relation_row, condition_row, arithmetic_link, relation_link, calculated, compared, cells, all_of, any_of}

pub row_is : (n : _) (k : Row_of-TypedExpression n) → typed_row k ≡ expressions_of (map typed_expression (items-the_row-TypedExpression n k))
row_is _ end_of-TypedExpression = refl
row_is _ (more_of-TypedExpression e rest) = ap (an_expression (typed_expression e)) (row_is _ rest)

pub arguments_are : (n : _) (k : Row_of-Argument n) → typed_arguments k ≡ arguments_of (map typed_argument (items-the_row-Argument n k))
arguments_are _ end_of-Argument = refl
arguments_are _ (more_of-Argument a rest) = ap (an_argument (typed_argument a)) (arguments_are _ rest)

pub rows_are : (n : _) (k : Row_of-TypedStatement n) → typed_rows k ≡ statements_of (map typed_statement (items-the_row-TypedStatement n k))
rows_are _ end_of-TypedStatement = refl
rows_are _ (more_of-TypedStatement s rest) = ap (a_statement (typed_statement s)) (rows_are _ rest)

pub arithmetic_links_are : (n : _) (k : Row_of-ArithmeticLink n) → arithmetic_row k ≡ map arithmetic_link (items-the_row-ArithmeticLink n k)
arithmetic_links_are _ end_of-ArithmeticLink = refl
arithmetic_links_are _ (more_of-ArithmeticLink o e rest) = ap (λ r. record { operator = o; operand = typed_expression e } ∷ r) (arithmetic_links_are _ rest)

pub relation_links_are : (n : _) (k : Row_of-RelationLink n) → relation_row k ≡ map relation_link (items-the_row-RelationLink n k)
relation_links_are _ end_of-RelationLink = refl
relation_links_are _ (more_of-RelationLink r e s rest) = ap (λ x. record { relation = r; operand = typed_expression e; site = s } ∷ x) (relation_links_are _ rest)

pub conditions_are : (n : _) (k : Row_of-Condition n) → condition_row k ≡ map typed_condition (items-the_row-Condition n k)
conditions_are _ end_of-Condition = refl
conditions_are _ (more_of-Condition c rest) = ap (λ r. typed_condition c ∷ r) (conditions_are _ rest)

pub typed-Arithmetic : (first : Box TypedExpression Global) (before : Vec ArithmeticLink Global) (o : Arithmetic) (right : Box TypedExpression Global) →
    typed_expression (Expressions.Arithmetic first before o right)
    ≡ arithmetic o (calculated (typed_expression first.value) (map arithmetic_link before.items)) (typed_expression right.value)
typed-Arithmetic first before o right = search (rules, E.the_lemmas, arithmetic_links_are)

pub typed-Cell : (p : Box TypedExpression Global) (before : Vec CellLink Global) (f : FieldId) (t : TypeId) (s : Site) →
    typed_expression (Expressions.Cell p before f t s) ≡ cell (cells (typed_expression p.value) before.items) f t s
typed-Cell p before f t s = search (rules, E.the_lemmas)

pub typed-Call : (proc : ProcId) (v : Vec Argument Global) (result : ValueType) (site : Site) →
    typed_expression (Expressions.Call proc v result site) ≡ call proc (arguments_of (map typed_argument v.items)) result site
typed-Call proc v result site = search (rules, E.the_lemmas, arguments_are)

pub typed-Erased : (v : Vec TypedExpression Global) → typed_argument (Arguments.Erased v) ≡ erased (expressions_of (map typed_expression v.items))
typed-Erased v = search (rules, A.the_lemmas, row_is)

pub typed-Stop : (word : ℕ) (site : Site) (v : Vec TypedExpression Global) → typed_expression (Expressions.Stop word site v) ≡ stop word site (expressions_of (map typed_expression v.items))
typed-Stop word site v = search (rules, E.the_lemmas, row_is)

pub typed-Compare : (first : Box TypedExpression Global) (before : Vec RelationLink Global) (r : Relation) (right : Box TypedExpression Global) (s : Site) →
    typed_condition (Conditions.Compare first before r right s)
    ≡ compare r (compared (typed_expression first.value) (map relation_link before.items)) (typed_expression right.value) s
typed-Compare first before r right s = search (rules, C.the_lemmas, relation_links_are)

pub typed-And : (first : Box Condition Global) (before : Vec Condition Global) (right : Box Condition Global) →
    typed_condition (Conditions.And first before right) ≡ both (all_of (typed_condition first.value) (map typed_condition before.items)) (typed_condition right.value)
typed-And first before right = search (rules, C.the_lemmas, conditions_are)

pub typed-Or : (first : Box Condition Global) (before : Vec Condition Global) (right : Box Condition Global) →
    typed_condition (Conditions.Or first before right) ≡ either (any_of (typed_condition first.value) (map typed_condition before.items)) (typed_condition right.value)
typed-Or first before right = search (rules, C.the_lemmas, conditions_are)

pub typed-Block : (v : Vec TypedStatement Global) → typed_statement (Statements.Block v) ≡ block (statements_of (map typed_statement v.items))
typed-Block v = search (rules, S.the_lemmas, rows_are)

pub ruleset typed_trees = (typed-Arithmetic, typed-Cell, typed-Call, typed-Erased, typed-Stop, typed-Compare, typed-And, typed-Or, typed-Block)
