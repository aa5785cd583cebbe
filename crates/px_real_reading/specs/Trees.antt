-- The trees of the code as the plain trees of the grammar, by the lexemes that were read.
use Rattle.std.specs.Prelude.{ℕ, List, [], ◌∷◌}
use Rattle.px_base.specs.declared.trace.Site.{Site}
use Rattle.px_real_expressions.specs.declared.operators.Operator.{Operator}
use Rattle.px_real_expressions.specs.declared.operators.Step.{Step}
use Rattle.px_real_expressions.specs.Lexemes.{Lexeme}
use Rattle.px_real_expressions.specs.ExpressionTree.{ExpressionTree, ExpressionTrees, no_expressions, an_expression, name, constant, string, parenthesised, statement, literal, form, index, call, member, pointer_member, step, prefixed, label, measure, measure_type, cast, binary, choice, choice_or, assign}
use Rattle.px_real_symbols.specs.Symbols.{held_in}
use Rattle.px_real_reading.specs.declared.tree.Link.{Link}
use Rattle.px_real_reading.specs.declared.tree.Suffix.{Suffix, Row_of-Expression, end_of-Expression, more_of-Expression}
use Rattle.px_real_reading.specs.declared.tree.Suffix as S
use Rattle.px_real_reading.specs.declared.tree.Expression.{Expression, Row_of-Link, end_of-Link, more_of-Link, Row_of-Suffix, end_of-Suffix, more_of-Suffix}
use Rattle.px_real_reading.specs.declared.tree.Expression as E

-- an operator and the operand after it
pub record LinkTree : Type 0 where
  pub operator : Operator
  pub site : Site
  pub operand : ExpressionTree

-- operators associate to the left
abbrev pub chained : ExpressionTree → List LinkTree → ExpressionTree
chained e [] = e
chained e (l ∷ links) = chained (binary l.operator l.site e l.operand) links

-- what stands after a postfix expression
pub data SuffixTree : Type 0 where
  an_index : Site → ExpressionTree → SuffixTree
  a_call : Site → ExpressionTrees → SuffixTree
  a_member : Site → List ℕ → SuffixTree
  a_pointer_member : Site → List ℕ → SuffixTree
  a_step : Step → Site → SuffixTree

abbrev pub suffixed : ExpressionTree → SuffixTree → ExpressionTree
suffixed e (an_index s a) = index s e a
suffixed e (a_call s es) = call s e es
suffixed e (a_member s f) = member s e f
suffixed e (a_pointer_member s f) = pointer_member s e f
suffixed e (a_step o s) = step o s e

abbrev pub all_suffixed : ExpressionTree → List SuffixTree → ExpressionTree
all_suffixed e [] = e
all_suffixed e (s ∷ suffixes) = all_suffixed (suffixed e s) suffixes

abbrev mutual
  pub expression_tree : List Lexeme → Expression → ExpressionTree
  expression_tree all (E.Name word site) = name word site
  expression_tree all (E.Constant value site) = constant value site
  expression_tree all (E.String site) = string site
  expression_tree all (E.Parenthesised' site p inner) = parenthesised site (expression_tree all inner)
  expression_tree all (E.Statement site body) = statement site (held_in all body)
  expression_tree all (E.Literal site type_name values) = literal site (held_in all type_name) (held_in all values)
  expression_tree all (E.Form word site arguments) = form word site (held_in all arguments)
  expression_tree all (E.Postfix' p first shape before last) = suffixed (all_suffixed (expression_tree all first) (suffix_row all before)) (suffix_tree all last)
  expression_tree all (E.Prefixed' operator site p operand) = prefixed operator site (expression_tree all operand)
  expression_tree all (E.Label word site) = label word site
  expression_tree all (E.Measure' kind site p operand) = measure kind site (expression_tree all operand)
  expression_tree all (E.MeasureType kind site type_name) = measure_type kind site (held_in all type_name)
  expression_tree all (E.Cast' site type_name p operand) = cast site (held_in all type_name) (expression_tree all operand)
  expression_tree all (E.Binary' p first shape before operator site q right) = binary operator site (chained (expression_tree all first) (link_row all before)) (expression_tree all right)
  expression_tree all (E.Choice' site p condition q chosen r otherwise) = choice site (expression_tree all condition) (expression_tree all chosen) (expression_tree all otherwise)
  expression_tree all (E.ChoiceOr' site p condition q otherwise) = choice_or site (expression_tree all condition) (expression_tree all otherwise)
  expression_tree all (E.Assign' operator site p left q right) = assign operator site (expression_tree all left) (expression_tree all right)

  pub suffix_tree : List Lexeme → Suffix → SuffixTree
  suffix_tree all (S.Index' site p inner) = an_index site (expression_tree all inner)
  suffix_tree all (S.Call' site shape arguments) = a_call site (expression_row all arguments)
  suffix_tree all (S.Member site word) = a_member site word
  suffix_tree all (S.PointerMember site word) = a_pointer_member site word
  suffix_tree all (S.Step kind site) = a_step kind site

  pub link_row : List Lexeme → {m : _} → Row_of-Link m → List LinkTree
  link_row all end_of-Link = []
  link_row all (more_of-Link operator site operand rest) = record { operator = operator; site = site; operand = expression_tree all operand } ∷ link_row all rest

  pub suffix_row : List Lexeme → {m : _} → Row_of-Suffix m → List SuffixTree
  suffix_row all end_of-Suffix = []
  suffix_row all (more_of-Suffix s rest) = suffix_tree all s ∷ suffix_row all rest

  pub expression_row : List Lexeme → {m : _} → Row_of-Expression m → ExpressionTrees
  expression_row all end_of-Expression = no_expressions
  expression_row all (more_of-Expression e rest) = an_expression (expression_tree all e) (expression_row all rest)

abbrev pub link_tree : List Lexeme → Link → LinkTree
link_tree all l = record { operator = l.operator; site = l.site; operand = expression_tree all l.operand }
