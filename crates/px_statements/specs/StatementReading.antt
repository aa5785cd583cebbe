-- Reading statements from left to right.
use Rattle.std.specs.Prelude.{ℕ, zero, suc, ◌-◌, List, [], ◌∷◌, ◌++◌, length, Some, None, ◌==◌, if◌then◌else◌}
use Rattle.px_base.specs.declared.trace.Site.{Site}
use Rattle.px_expressions.specs.Lexemes.{Lexeme, front}
use Rattle.px_expressions.specs.declared.terminal.Terminal.{Terminal}
use Rattle.px_expressions.specs.declared.terminal.Terminal.TheVariants as T
use Rattle.px_expressions.specs.Reading.{◌>>=◌, or_else, Reader, begins_type, expression_at}
use Rattle.px_syntax.specs.ExpressionTree.{ExpressionTree}
use Rattle.px_syntax.specs.StatementTree.{StatementTree, statements_of, empty, block, declare, simple_statement, choose, choose_else, while_loop, for_loop, break, continue, return}
use Rattle.px_statements.specs.SimpleReading.{declaration_at, simple_at, condition_at, optional_at, first_at}

-- statements up to the closing brace; n is more than there can be
unfoldable pub statements_at : ℕ → Reader StatementTree → List StatementTree → Reader (List StatementTree)
statements_at zero inside before ts = None
statements_at (suc n) inside before ts = or_else (front T.CloseBrace ts) (λ x. Some (before, x.1))
    (inside ts >>= λ y. statements_at n inside (before ++ y.0 ∷ []) y.1)

-- a statement inside another, other than a declaration
unfoldable pub sub_at : Reader StatementTree → Reader StatementTree
sub_at inside ts = if begins_type ts then None else inside ts

-- what follows an `if` and its condition
unfoldable pub branches_at : Reader StatementTree → ExpressionTree → Reader StatementTree
branches_at inside condition ts = sub_at inside ts >>= λ x. or_else (front T.Else x.1)
    (λ y. sub_at inside y.1 >>= λ z. Some (choose_else condition x.0 z.0, z.1))
    (Some (choose condition x.0, x.1))

unfoldable pub if_at : ℕ → Reader StatementTree → Reader StatementTree
if_at d inside ts = condition_at d ts >>= λ x. branches_at inside x.0 x.1

unfoldable pub while_at : ℕ → Reader StatementTree → Site → Reader StatementTree
while_at d inside site ts = condition_at d ts >>= λ x. sub_at inside x.1 >>= λ y. Some (while_loop site x.0 y.0, y.1)

unfoldable pub for_at : ℕ → Reader StatementTree → Site → Reader StatementTree
for_at d inside site ts =
    front T.OpenParenthesis ts >>= λ o. optional_at T.Semicolon (first_at d) o.1 >>= λ a. optional_at T.Semicolon (expression_at d) a.1 >>= λ b.
    optional_at T.CloseParenthesis (simple_at d) b.1 >>= λ c. sub_at inside c.1 >>= λ e. Some (for_loop site a.0 b.0 c.0 e.0, e.1)

unfoldable pub block_at : Reader StatementTree → Reader StatementTree
block_at inside ts = statements_at (length ts) inside [] ts >>= λ x. Some (block (statements_of x.0), x.1)

-- a block in which nothing stands
unfoldable pub empty_block_at : Reader StatementTree
empty_block_at ts = front T.CloseBrace ts >>= λ x. Some (block (statements_of []), x.1)

-- what a word alone is, up to its semicolon
unfoldable pub word_at : StatementTree → Reader StatementTree
word_at s ts = front T.Semicolon ts >>= λ x. Some (s, x.1)

unfoldable pub return_at : ℕ → Reader StatementTree
return_at d ts = optional_at T.Semicolon (expression_at d) ts >>= λ x. Some (return x.0, x.1)

unfoldable pub declare_at : ℕ → Reader StatementTree
declare_at d ts = declaration_at d ts >>= λ x. front T.Semicolon x.1 >>= λ y. Some (declare x.0, y.1)

unfoldable pub act_at : ℕ → Reader StatementTree
act_at d ts = simple_at d ts >>= λ x. front T.Semicolon x.1 >>= λ y. Some (simple_statement x.0, y.1)

-- a statement by its first terminal, which t has; `all` has t too
abbrev pub statement_by : Terminal → ℕ → Reader StatementTree → Lexeme → List Lexeme → Reader StatementTree
statement_by T.Semicolon d inside t all ts = Some (empty, ts)
statement_by T.OpenBrace d inside t all ts = if d == 0 then empty_block_at ts else block_at inside ts
statement_by T.If d inside t all ts = if d == 0 then None else if_at (d - 1) inside ts
statement_by T.While d inside t all ts = if d == 0 then None else while_at (d - 1) inside t.site ts
statement_by T.For d inside t all ts = if d == 0 then None else for_at (d - 1) inside t.site ts
statement_by T.Break d inside t all ts = word_at break ts
statement_by T.Continue d inside t all ts = word_at continue ts
statement_by T.Return d inside t all ts = return_at d ts
statement_by T.Int d inside t all ts = declare_at d all
statement_by T.Struct d inside t all ts = declare_at d all
statement_by _ d inside t all ts = act_at d all

unfoldable pub statement_of : ℕ → Reader StatementTree → Reader StatementTree
statement_of d inside [] = None
statement_of d inside (t ∷ ts) = statement_by t.terminal d inside t (t ∷ ts) ts

unfoldable pub statement_at : ℕ → Reader StatementTree
statement_at zero ts = statement_of zero (λ rest. None) ts
statement_at (suc d) ts = statement_of (suc d) (statement_at d) ts
