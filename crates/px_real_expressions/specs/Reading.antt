-- Reading expressions from left to right: a tree and the lexemes after it, or where reading stops.
use Rattle.std.specs.Prelude.{ℕ, zero, suc, List, [], ◌∷◌, length, Bool, true, false, Option, Some, None, Ok, Err, if◌then◌else◌}
use Rattle.px_expressions.specs.Reading.{or_else}
use Rattle.px_real_expressions.specs.Lexemes.{Lexeme, same, front, front_if}
use Rattle.px_real_expressions.specs.declared.terminal.Terminal.{Terminal}
use Rattle.px_real_expressions.specs.declared.terminal.Terminal.TheVariants as T
use Rattle.px_real_expressions.specs.declared.operators.Prefix.{Prefix}
use Rattle.px_real_expressions.specs.declared.operators.Operator.{Operator}
use Rattle.px_real_expressions.specs.declared.operators.Measure.{Measure}
use Rattle.px_real_expressions.specs.Operators.{begins_type, is_identifier, begins_expression, opens_group, operator_at, assignment_of, prefix_of, wants_unary, step_of, measure_of, front_by}
use Rattle.px_real_expressions.specs.ExpressionTree.{ExpressionTree, expressions_of, is_unary, name, constant, string, parenthesised, statement, literal, form, index, call, member, pointer_member, step, prefixed, label, measure, measure_type, cast, binary, choice, choice_or, assign}
use Rattle.px_real_expressions.specs.Stops.{Stop, wrong, deep, Read, ◌>>=◌, expect}
use Rattle.px_real_expressions.specs.Held.{held_at}

abbrev pub Reader : Type 0 → Type 0
Reader A = List Lexeme → Read A

-- the readers of what is opened, and whether one more may be. An operand may be a unary expression only, or a cast too
pub record Readers : Type 0 where
  pub may_open : Bool
  pub operand_reader : Bool → Reader ExpressionTree
  pub conditional_reader : Reader ExpressionTree
  pub assignment_reader : Reader ExpressionTree
  pub expression_reader : Reader ExpressionTree

-- what stands before a terminal, and what stands after it
unfoldable pub closed_at : {A : Type 0} → Terminal → Reader A → Reader A
closed_at close part ts = part ts >>= λ x. expect close x.1 >>= λ c. Ok (x.0, c.1)

-- up to the bracket of this terminal
unfoldable pub held_up_to : Terminal → Reader (List Lexeme)
held_up_to close ts = held_at close [] ts

-- a type's name up to the closing parenthesis
unfoldable pub type_at : Reader (List Lexeme)
type_at ts = or_else (front_if begins_type ts) (λ x. held_at T.CloseParenthesis [] ts) (Err (wrong ts))

-- what stands between braces, after the one that opens them
unfoldable pub braces_at : Reader (List Lexeme)
braces_at ts = closed_at T.CloseBrace (held_up_to T.CloseBrace) ts

-- the lexemes after the strings at the front
unfoldable pub after_strings : List Lexeme → List Lexeme
after_strings [] = []
after_strings (t ∷ ts) = if same t.terminal T.String then after_strings ts else t ∷ ts

-- the parenthesis at the front, where a type's name follows
unfoldable pub typed_front : List Lexeme → Option (Lexeme × List Lexeme)
typed_front ts = or_else (front T.OpenParenthesis ts) (λ o. or_else (front_if begins_type o.1) (λ k. Some (o.0, o.1)) None) None

-- at most n times a comma and an item
unfoldable pub more_items : {A : Type 0} → ℕ → Reader A → Reader (List A)
more_items zero part ts = Ok ([], ts)
more_items (suc n) part ts = or_else (front T.Comma ts)
    (λ x. part x.1 >>= λ y. more_items n part y.1 >>= λ z. Ok (y.0 ∷ z.0, z.1))
    (Ok ([], ts))

-- the arguments up to the closing parenthesis
unfoldable pub arguments_at : Reader ExpressionTree → Reader (List ExpressionTree)
arguments_at part ts = or_else (front T.CloseParenthesis ts) (λ x. Ok ([], x.1))
    (part ts >>= λ x. more_items (length x.1) part x.1 >>= λ y. expect T.CloseParenthesis y.1 >>= λ z. Ok (x.0 ∷ y.0, z.1))

-- what follows a parenthesis that opens no call and no type's name
unfoldable pub opened_at : Readers → Lexeme → Reader ExpressionTree
opened_at r o ts = or_else (front T.OpenBrace ts)
    (λ b. braces_at b.1 >>= λ x. expect T.CloseParenthesis x.1 >>= λ c. Ok (statement o.site x.0, c.1))
    (closed_at T.CloseParenthesis r.expression_reader ts >>= λ x. Ok (parenthesised o.site x.0, x.1))

-- what follows a word with parentheses of its own
unfoldable pub form_at : Lexeme → Reader ExpressionTree
form_at t ts = expect T.OpenParenthesis ts >>= λ o. closed_at T.CloseParenthesis (held_up_to T.CloseParenthesis) o.1 >>= λ x. Ok (form t.text t.site x.0, x.1)

-- a primary by its first terminal, which t has
abbrev pub primary_by : Terminal → Readers → Lexeme → Reader ExpressionTree
primary_by T.Name r t ts = Ok (name t.text t.site, ts)
primary_by T.Constant r t ts = Ok (constant t.value t.site, ts)
primary_by T.String r t ts = Ok (string t.site, after_strings ts)
primary_by T.Form r t ts = form_at t ts
primary_by T.OpenParenthesis r t ts = opened_at r t ts
primary_by _ r t ts = Err (wrong (t ∷ ts))

unfoldable pub primary_of : Readers → Reader ExpressionTree
primary_of r [] = Err (wrong [])
primary_of r (t ∷ ts) = primary_by t.terminal r t ts

-- an index after what stands to the left, from its bracket on
unfoldable pub index_at : Readers → ExpressionTree → Lexeme → Reader ExpressionTree
index_at r left o ts = if r.may_open then (closed_at T.CloseBracket r.expression_reader ts >>= λ x. Ok (index o.site left x.0, x.1)) else Err (deep (o ∷ ts))

-- at most n suffixes after what stands to the left
unfoldable pub suffixes_at : Readers → ℕ → ExpressionTree → Reader ExpressionTree
suffixes_at r zero left ts = Ok (left, ts)
suffixes_at r (suc n) left ts = or_else (front T.OpenBracket ts)
    (λ o. index_at r left o.0 o.1 >>= λ x. suffixes_at r n x.0 x.1)
    (or_else (front T.OpenParenthesis ts)
    (λ o. arguments_at r.assignment_reader o.1 >>= λ x. suffixes_at r n (call o.0.site left (expressions_of x.0)) x.1)
    (or_else (front T.Dot ts)
    (λ o. or_else (front_if is_identifier o.1) (λ f. suffixes_at r n (member o.0.site left f.0.text) f.1) (Err (wrong o.1)))
    (or_else (front T.Arrow ts)
    (λ o. or_else (front_if is_identifier o.1) (λ f. suffixes_at r n (pointer_member o.0.site left f.0.text) f.1) (Err (wrong o.1)))
    (or_else (front_by step_of ts)
    (λ s. suffixes_at r n (step s.0 s.1.site left) s.2)
    (Ok (left, ts))))))

unfoldable pub postfix_of : Readers → Reader ExpressionTree
postfix_of r ts = primary_of r ts >>= λ x. suffixes_at r (length x.1) x.0 x.1

-- what follows a type's name in parentheses, where it is no compound literal
unfoldable pub cast_at : Bool → Readers → Lexeme → List Lexeme → Reader ExpressionTree
cast_at only r o held ts = if only then Err (wrong ts) else (r.operand_reader false ts >>= λ y. Ok (cast o.site held y.0, y.1))

-- what follows the parenthesis that opens a type's name
unfoldable pub typed_at : Bool → Readers → Lexeme → Reader ExpressionTree
typed_at only r o ts = closed_at T.CloseParenthesis type_at ts >>= λ x. or_else (front T.OpenBrace x.1)
    (λ b. braces_at b.1 >>= λ y. suffixes_at r (length y.1) (literal o.site x.0 y.0) y.1)
    (cast_at only r o x.0 x.1)

-- what follows an operator before its operand
unfoldable pub prefixed_at : Readers → Prefix → Lexeme → Reader ExpressionTree
prefixed_at r p t ts = if r.may_open then (r.operand_reader (wants_unary p) ts >>= λ y. Ok (prefixed p t.site y.0, y.1)) else Err (deep (t ∷ ts))

-- where an operand would have to begin, and nothing may be opened
abbrev pub shut : List Lexeme → Stop
shut [] = wrong []
shut (t ∷ ts) = if begins_expression t.terminal then deep (t ∷ ts) else wrong (t ∷ ts)

-- the same in the place of what `sizeof` and its like measure, which isn't a type's name in parentheses: the parenthesis would do
abbrev pub shut_group : List Lexeme → Stop
shut_group [] = wrong []
shut_group (t ∷ ts) = if opens_group t.terminal then deep (t ∷ ts) else wrong (t ∷ ts)

abbrev pub shut_measure : List Lexeme → Stop
shut_measure ts = or_else (front T.OpenParenthesis ts) (λ o. shut_group o.1) (shut ts)

-- the operand of `sizeof` and its like, where it is an expression
unfoldable pub measured_at : Readers → Measure → Lexeme → Stop → Reader ExpressionTree
measured_at r m t stop ts = if r.may_open then (r.operand_reader true ts >>= λ y. Ok (measure m t.site y.0, y.1)) else Err stop

-- what follows `sizeof` and its like: a type's name is the operand where no brace follows it
unfoldable pub measure_at : Readers → Measure → Lexeme → Reader ExpressionTree
measure_at r m t ts = or_else (typed_front ts)
    (λ o. closed_at T.CloseParenthesis type_at o.1 >>= λ x. or_else (front T.OpenBrace x.1) (λ b. measured_at r m t (deep x.1) ts) (Ok (measure_type m t.site x.0, x.1)))
    (measured_at r m t (shut_measure ts) ts)

-- the label whose address is taken
unfoldable pub label_at : Lexeme → Reader ExpressionTree
label_at t ts = or_else (front_if is_identifier ts) (λ f. Ok (label f.0.text t.site, f.1)) (Err (wrong ts))

-- a unary expression, or a cast where not only those are wanted
unfoldable pub operand_of : Bool → Readers → Reader ExpressionTree
operand_of only r ts = or_else (front_by prefix_of ts) (λ x. prefixed_at r x.0 x.1 x.2)
    (or_else (front T.AndAnd ts) (λ x. label_at x.0 x.1)
    (or_else (front_by measure_of ts) (λ x. measure_at r x.0 x.1 x.2)
    (or_else (typed_front ts) (λ o. typed_at only r o.0 o.1)
    (postfix_of r ts))))

-- at most n operators of level k, each with its right operand
unfoldable pub more_at : ℕ → ℕ → Reader ExpressionTree → ExpressionTree → Reader ExpressionTree
more_at zero k part left ts = Ok (left, ts)
more_at (suc n) k part left ts = or_else (front_by (operator_at k) ts)
    (λ x. part x.2 >>= λ y. more_at n k part (binary x.0 x.1.site left y.0) y.1)
    (Ok (left, ts))

-- operands with the operators of level k between them
unfoldable pub chain_at : ℕ → Reader ExpressionTree → Reader ExpressionTree
chain_at k part ts = part ts >>= λ x. more_at (length x.1) k part x.0 x.1

-- the operators of the levels up to k
unfoldable pub levels_at : ℕ → Reader ExpressionTree → Reader ExpressionTree
levels_at zero inner ts = inner ts
levels_at (suc k) inner ts = chain_at (suc k) (levels_at k inner) ts

-- what follows a condition and its `?`
unfoldable pub choice_at : Readers → ExpressionTree → Lexeme → Reader ExpressionTree
choice_at r e q ts = if r.may_open then (or_else (front T.Colon ts)
    (λ c. r.conditional_reader c.1 >>= λ b. Ok (choice_or q.site e b.0, b.1))
    (r.expression_reader ts >>= λ a. expect T.Colon a.1 >>= λ c. r.conditional_reader c.1 >>= λ b. Ok (choice q.site e a.0 b.0, b.1))) else Err (deep (q ∷ ts))

unfoldable pub conditional_of : Readers → Reader ExpressionTree → Reader ExpressionTree
conditional_of r condition ts = condition ts >>= λ x. or_else (front T.Question x.1) (λ q. choice_at r x.0 q.0 q.1) (Ok (x.0, x.1))

-- what follows an assignment, whose left side this is
unfoldable pub assigned_at : Readers → ExpressionTree → Option Operator → Lexeme → Reader ExpressionTree
assigned_at r e o t ts = if is_unary e
    then (if r.may_open then (r.assignment_reader ts >>= λ y. Ok (assign o t.site e y.0, y.1)) else Err (deep (t ∷ ts)))
    else Err (wrong (t ∷ ts))

unfoldable pub assignment_with : Readers → Reader ExpressionTree → Reader ExpressionTree
assignment_with r conditional ts = conditional ts >>= λ x. or_else (front_by assignment_of x.1) (λ o. assigned_at r x.0 o.0 o.1 o.2) (Ok (x.0, x.1))

abbrev pub conditional_by : Readers → Reader ExpressionTree
conditional_by r = conditional_of r (levels_at 10 (operand_of false r))

abbrev pub assignment_by : Readers → Reader ExpressionTree
assignment_by r = assignment_with r (conditional_by r)

abbrev pub expression_by : Readers → Reader ExpressionTree
expression_by r = chain_at 13 (assignment_by r)

abbrev pub readers_around : Readers → Readers
readers_around r = record { may_open = true; operand_reader = λ only. operand_of only r; conditional_reader = conditional_by r; assignment_reader = assignment_by r; expression_reader = expression_by r }

abbrev pub no_readers : Readers
no_readers = record { may_open = false; operand_reader = λ only ts. Err (shut ts); conditional_reader = λ ts. Err (shut ts); assignment_reader = λ ts. Err (shut ts); expression_reader = λ ts. Err (shut ts) }

-- where so many may be opened
unfoldable pub readers : ℕ → Readers
readers zero = no_readers
readers (suc d) = readers_around (readers d)

-- an expression, where d more may be opened
unfoldable pub expression_at : ℕ → Reader ExpressionTree
expression_at d = (readers (suc d)).expression_reader
