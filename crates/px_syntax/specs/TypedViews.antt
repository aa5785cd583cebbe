-- Typed trees as plain data.
use Rattle.std.specs.Prelude.{List, [], ◌∷◌, map, option_map}
use Rattle.px_base.specs.declared.trace.Site.{Site}
use Rattle.px_syntax.specs.declared.typed_expression.Arithmetic.{Arithmetic}
use Rattle.px_syntax.specs.declared.typed_expression.Relation.{Relation}
use Rattle.px_syntax.specs.declared.typed_expression.CellLink.{CellLink}
use Rattle.px_syntax.specs.declared.typed_expression.ArithmeticLink.{ArithmeticLink}
use Rattle.px_syntax.specs.declared.typed_expression.RelationLink.{RelationLink}
use Rattle.px_syntax.specs.declared.typed_expression.Argument as A
use Rattle.px_syntax.specs.declared.typed_expression.TypedExpression.{TypedExpression, Row_of-TypedExpression, end_of-TypedExpression, more_of-TypedExpression, Row_of-ArithmeticLink, end_of-ArithmeticLink, more_of-ArithmeticLink, Row_of-Argument, end_of-Argument, more_of-Argument}
use Rattle.px_syntax.specs.declared.typed_expression.Condition.{Row_of-RelationLink, end_of-RelationLink, more_of-RelationLink, Row_of-Condition, end_of-Condition, more_of-Condition}
use Rattle.px_syntax.specs.declared.typed_expression.TypedExpression as E
use Rattle.px_syntax.specs.declared.typed_expression.Condition as C
use Rattle.px_syntax.specs.declared.typed_statement.Place.TheVariants as P
use Rattle.px_syntax.specs.declared.typed_statement.TypedStatement.{TypedStatement, Row_of-TypedStatement, end_of-TypedStatement, more_of-TypedStatement}
use Rattle.px_syntax.specs.declared.typed_statement.TypedStatement as S
use Rattle.px_syntax.specs.declared.typed_statement.Place.{Place as RustPlace}
use Rattle.px_syntax.specs.TypedTree.{Expression, constant, null, local, negated, arithmetic, truth, cell, allocate, get_char, call, stop, Expressions, no_expressions, an_expression, Arguments, no_arguments, an_argument, Argument, passed, erased, Condition, compare, word, pointer, both, either, opposite, Place, local_place, cell_place, Statement, block, declare, assign, update, run_call, free, input, choose, loop, break, continue, return, evaluate, access, Statements, no_statements, a_statement, expressions_of, arguments_of}

-- an operator and the operand after it
pub record ArithmeticLinkTree : Type 0 where
  pub operator : Arithmetic
  pub operand : Expression

-- a comparison and the operand after it
pub record RelationLinkTree : Type 0 where
  pub relation : Relation
  pub operand : Expression
  pub site : Site

-- arithmetic associates to the left
abbrev pub calculated : Expression → List ArithmeticLinkTree → Expression
calculated e [] = e
calculated e (l ∷ links) = calculated (arithmetic l.operator e l.operand) links

-- and so do comparisons: the next compares the outcome of those before it
abbrev pub compared : Expression → List RelationLinkTree → Expression
compared e [] = e
compared e (l ∷ links) = compared (truth (compare l.relation e l.operand l.site)) links

abbrev pub cells : Expression → List CellLink → Expression
cells e [] = e
cells e (l ∷ links) = cells (cell e l.field l.block l.site) links

abbrev pub all_of : Condition → List Condition → Condition
all_of c [] = c
all_of c (d ∷ ds) = all_of (both c d) ds

abbrev pub any_of : Condition → List Condition → Condition
any_of c [] = c
any_of c (d ∷ ds) = any_of (either c d) ds

abbrev mutual
  pub typed_expression : TypedExpression → Expression
  typed_expression (E.Constant value) = constant value
  typed_expression E.Null = null
  typed_expression (E.Local number site) = local number site
  typed_expression (E.Negate' p operand) = negated (typed_expression operand)
  typed_expression (E.Arithmetic' p first shape before operator q right) = arithmetic operator (calculated (typed_expression first) (arithmetic_row before)) (typed_expression right)
  typed_expression (E.Truth' p condition) = truth (typed_condition condition)
  typed_expression (E.Cell' p at before field t site) = cell (cells (typed_expression at) before.items) field t site
  typed_expression (E.Allocate t site) = allocate t site
  typed_expression (E.GetChar site) = get_char site
  typed_expression (E.Call' proc shape arguments result site) = call proc (typed_arguments arguments) result site
  typed_expression (E.Stop' number site shape parts) = stop number site (typed_row parts)

  -- the expressions of a row
  pub typed_row : {m : _} → Row_of-TypedExpression m → Expressions
  typed_row end_of-TypedExpression = no_expressions
  typed_row (more_of-TypedExpression e rest) = an_expression (typed_expression e) (typed_row rest)

  pub typed_argument : A.Argument → Argument
  typed_argument (A.Passed value) = passed (typed_expression value)
  typed_argument (A.Erased' shape parts) = erased (typed_row parts)

  -- the arguments of a row
  pub typed_arguments : {m : _} → Row_of-Argument m → Arguments
  typed_arguments end_of-Argument = no_arguments
  typed_arguments (more_of-Argument a rest) = an_argument (typed_argument a) (typed_arguments rest)

  pub typed_condition : C.Condition → Condition
  typed_condition (C.Compare' p first shape before relation q right site) = compare relation (compared (typed_expression first) (relation_row before)) (typed_expression right) site
  typed_condition (C.Word' p operand site) = word (typed_expression operand) site
  typed_condition (C.Pointer' p operand site) = pointer (typed_expression operand) site
  typed_condition (C.And' p first shape before q right) = both (all_of (typed_condition first) (condition_row before)) (typed_condition right)
  typed_condition (C.Or' p first shape before q right) = either (any_of (typed_condition first) (condition_row before)) (typed_condition right)
  typed_condition (C.Not' p condition) = opposite (typed_condition condition)

  -- the links of a chain
  pub arithmetic_row : {m : _} → Row_of-ArithmeticLink m → List ArithmeticLinkTree
  arithmetic_row end_of-ArithmeticLink = []
  arithmetic_row (more_of-ArithmeticLink operator operand rest) = record { operator = operator; operand = typed_expression operand } ∷ arithmetic_row rest

  pub relation_row : {m : _} → Row_of-RelationLink m → List RelationLinkTree
  relation_row end_of-RelationLink = []
  relation_row (more_of-RelationLink relation operand site rest) = record { relation = relation; operand = typed_expression operand; site = site } ∷ relation_row rest

  pub condition_row : {m : _} → Row_of-Condition m → List Condition
  condition_row end_of-Condition = []
  condition_row (more_of-Condition c rest) = typed_condition c ∷ condition_row rest

abbrev pub arithmetic_link : ArithmeticLink → ArithmeticLinkTree
arithmetic_link l = record { operator = l.operator; operand = typed_expression l.operand }

abbrev pub relation_link : RelationLink → RelationLinkTree
relation_link l = record { relation = l.relation; operand = typed_expression l.operand; site = l.site }

abbrev pub typed_place : RustPlace → Place
typed_place (P.Local number site) = local_place number site
typed_place (P.Cell site field t at) = cell_place (typed_expression at.value) field t site

abbrev mutual
  pub typed_statement : TypedStatement → Statement
  typed_statement (S.Block' shape statements) = block (typed_rows statements)
  typed_statement (S.Declare number value) = declare number (option_map (λ b. typed_expression b.value) value)
  typed_statement (S.Assign place value) = assign (typed_place place) (typed_expression value.value)
  typed_statement (S.Update operator place value) = update operator (typed_place place) (typed_expression value.value)
  typed_statement (S.Call proc arguments site) = run_call proc (arguments_of (map typed_argument arguments.items)) site
  typed_statement (S.Free at t site) = free (typed_expression at.value) t site
  typed_statement (S.GetChar site) = input site
  typed_statement (S.If' condition p then' q other) = choose (typed_condition condition.value) (typed_statement then') (typed_statement other)
  typed_statement (S.Loop' site condition p body q step) = loop site (option_map (λ b. typed_condition b.value) condition) (typed_statement body) (typed_statement step)
  typed_statement S.Break = break
  typed_statement S.Continue = continue
  typed_statement (S.Return value) = return (option_map (λ b. typed_expression b.value) value)
  typed_statement (S.Evaluate value) = evaluate (typed_expression value.value)
  typed_statement (S.Access p parts l) = access (typed_expression p.value) (expressions_of (map typed_expression parts.items)) l.field l.block l.site

  -- the statements of a row
  pub typed_rows : {m : _} → Row_of-TypedStatement m → Statements
  typed_rows end_of-TypedStatement = no_statements
  typed_rows (more_of-TypedStatement s rest) = a_statement (typed_statement s) (typed_rows rest)
