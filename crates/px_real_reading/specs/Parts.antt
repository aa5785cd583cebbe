-- The readers of what is opened, by what it is.
use Rattle.std.specs.Prelude.{ℕ, List, drop, Option, Some, None, Result, Ok, Err, if◌then◌else◌}
use Rattle.px_expressions.specs.Reading.{or_else}
use Rattle.px_real_expressions.specs.declared.terminal.Terminal.{Terminal}
use Rattle.px_real_expressions.specs.declared.terminal.Terminal.TheVariants as T
use Rattle.px_real_expressions.specs.declared.operators.Step.TheVariants as St
use Rattle.px_real_expressions.specs.Lexemes.{Lexeme, front_if}
use Rattle.px_real_expressions.specs.Operators.{is_identifier}
use Rattle.px_real_expressions.specs.ExpressionTree.{ExpressionTree, expressions_of}
use Rattle.px_real_expressions.specs.Stops.{wrong, deep, Read, ◌>>=◌, expect}
use Rattle.px_real_expressions.specs.Reading.{Reader, Readers, closed_at, arguments_at}
use Rattle.px_real_symbols.specs.declared.fault.Fault.{Fault}
use Rattle.px_real_symbols.specs.declared.symbol.Tokens.{Tokens}
use Rattle.px_real_symbols.specs.Answers.{Gives}
use Rattle.px_real_symbols.specs.Symbols.{seen, first}
use Rattle.px_real_reading.specs.declared.expressions.Part.{Part}
use Rattle.px_real_reading.specs.declared.expressions.Part.TheVariants as P
use Rattle.px_real_reading.specs.declared.tree.Expression.{Expression}
use Rattle.px_real_reading.specs.Trees.{expression_tree, SuffixTree, an_index, a_call, a_member, a_pointer_member, a_step}

-- a function answers the tree that reading gives, and the number of the token after it
abbrev pub Answers : Tokens → Result (Expression × ℕ) Fault → Read ExpressionTree → Type 0
Answers on result read = Gives (seen on) (λ x. (expression_tree (seen on) x.0, drop x.1 (seen on))) result read

abbrev pub part_reader : Part → Readers → Reader ExpressionTree
part_reader (P.Operand only) r = r.operand_reader only
part_reader P.Conditional r = r.conditional_reader
part_reader P.Assignment r = r.assignment_reader
part_reader P.Expression r = r.expression_reader

-- these items, where a parenthesis closes after them
abbrev pub closed_items : {A : Type 0} → List A → Reader (List A)
closed_items before ts = expect T.CloseParenthesis ts >>= λ c. Ok (before, c.1)

-- a suffix by its first terminal, which t has, and what is left; or none, and all from there
abbrev pub suffix_by : Terminal → Readers → List Lexeme → Lexeme → Reader (Option SuffixTree)
suffix_by T.OpenBracket r from t ts = if r.may_open then (closed_at T.CloseBracket r.expression_reader ts >>= λ x. Ok (Some (an_index t.site x.0), x.1)) else Err (deep from)
suffix_by T.OpenParenthesis r from t ts = arguments_at r.assignment_reader ts >>= λ x. Ok (Some (a_call t.site (expressions_of x.0)), x.1)
suffix_by T.Dot r from t ts = or_else (front_if is_identifier ts) (λ f. Ok (Some (a_member t.site f.0.text), f.1)) (Err (wrong ts))
suffix_by T.Arrow r from t ts = or_else (front_if is_identifier ts) (λ f. Ok (Some (a_pointer_member t.site f.0.text), f.1)) (Err (wrong ts))
suffix_by T.PlusPlus r from t ts = Ok (Some (a_step St.Increment t.site), ts)
suffix_by T.MinusMinus r from t ts = Ok (Some (a_step St.Decrement t.site), ts)
suffix_by _ r from t ts = Ok (None, from)

unfoldable pub suffix_at : Readers → Reader (Option SuffixTree)
suffix_at r ts = or_else (first ts) (λ x. suffix_by x.0.terminal r ts x.0 x.1) (Ok (None, ts))
