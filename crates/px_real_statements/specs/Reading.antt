-- Reading statements from left to right.
use Rattle.std.specs.Prelude.{ℕ, zero, suc, List, [], ◌∷◌, length, Option, Some, None, Result, Ok, Err}
use Rattle.px_base.specs.declared.trace.Site.{Site}
use Rattle.px_expressions.specs.Reading.{or_else}
use Rattle.px_real_expressions.specs.Lexemes.{Lexeme, front, front_if}
use Rattle.px_real_expressions.specs.Operators.{is_identifier}
use Rattle.px_real_expressions.specs.Stops.{Stop, wrong, deep, ◌>>=◌, expect}
use Rattle.px_real_expressions.specs.Reading.{Reader, closed_at, held_up_to}
use Rattle.px_real_expressions.specs.declared.terminal.Terminal.{Terminal}
use Rattle.px_real_expressions.specs.declared.terminal.Terminal.TheVariants as T
use Rattle.px_real_statements.specs.StatementTree.{LabelTree, named, case, default, StatementTree, statements_of, labelled_by, empty, simple, block, choose, choose_else, switch, while_loop, do_loop, for_loop, goto, break, continue, return, unread}
use Rattle.px_real_statements.specs.Grammar.{begins_simple}
use Rattle.px_real_statements.specs.PhraseReading.{phrase_at}

-- what stands up to this terminal, and the terminal
abbrev pub up_to : Terminal → Reader (List Lexeme)
up_to k = closed_at k phrase_at

-- what stands in parentheses, held
unfoldable pub condition_at : Reader (List Lexeme)
condition_at ts = expect T.OpenParenthesis ts >>= λ o. closed_at T.CloseParenthesis (held_up_to T.CloseParenthesis) o.1

-- a name and a colon
unfoldable pub named_front : List Lexeme → Option (LabelTree × List Lexeme)
named_front ts = or_else (front_if is_identifier ts) (λ t. or_else (front T.Colon t.1) (λ c. Some (named t.0.text t.0.site, c.1)) None) None

-- a label, or none
unfoldable pub label_at : Reader (Option LabelTree)
label_at ts = or_else (named_front ts) (λ x. Ok (Some x.0, x.1))
    (or_else (front T.Case ts) (λ t. up_to T.Colon t.1 >>= λ x. Ok (Some (case t.0.site x.0), x.1))
    (or_else (front T.Default ts) (λ t. expect T.Colon t.1 >>= λ c. Ok (Some (default t.0.site), c.1))
    (Ok (None, ts))))

-- at most n labels
unfoldable pub labels_at : ℕ → Reader (List LabelTree)
labels_at zero ts = Ok ([], ts)
labels_at (suc n) ts = label_at ts >>= λ x. or_else x.0 (λ l. labels_at n x.1 >>= λ y. Ok (l ∷ y.0, y.1)) (Ok ([], x.1))

-- one of two, by whether there was something to read
abbrev pub read_or : {A B : Type 0} → Result A Stop → (A → B) → B → B
read_or (Ok x) f d = f x
read_or (Err s) f d = d

-- at most n items up to a closing brace
unfoldable pub items_at : ℕ → Reader StatementTree → Reader (List StatementTree)
items_at zero inside ts = Ok ([], ts)
items_at (suc n) inside ts = or_else (front T.CloseBrace ts) (λ c. Ok ([], ts))
    (read_or (inside ts)
    (λ x. items_at n inside x.1 >>= λ y. Ok (x.0 ∷ y.0, y.1))
    (held_up_to T.CloseBrace ts >>= λ x. expect T.CloseBrace x.1 >>= λ c. Ok (unread x.0 ∷ [], x.1)))

unfoldable pub block_at : Reader StatementTree → Reader StatementTree
block_at inside ts = closed_at T.CloseBrace (items_at (length ts) inside) ts >>= λ x. Ok (block (statements_of x.0), x.1)

-- what follows an `if`
unfoldable pub if_at : Reader StatementTree → Site → Reader StatementTree
if_at inside w ts = condition_at ts >>= λ x. inside x.1 >>= λ y. or_else (front T.Else y.1)
    (λ l. inside l.1 >>= λ z. Ok (choose_else w x.0 y.0 z.0, z.1))
    (Ok (choose w x.0 y.0, y.1))

unfoldable pub switch_at : Reader StatementTree → Site → Reader StatementTree
switch_at inside w ts = condition_at ts >>= λ x. inside x.1 >>= λ y. Ok (switch w x.0 y.0, y.1)

unfoldable pub while_at : Reader StatementTree → Site → Reader StatementTree
while_at inside w ts = condition_at ts >>= λ x. inside x.1 >>= λ y. Ok (while_loop w x.0 y.0, y.1)

unfoldable pub do_at : Reader StatementTree → Site → Reader StatementTree
do_at inside w ts = inside ts >>= λ x. expect T.While x.1 >>= λ y. condition_at y.1 >>= λ z. expect T.Semicolon z.1 >>= λ e. Ok (do_loop w x.0 z.0, e.1)

unfoldable pub for_at : Reader StatementTree → Site → Reader StatementTree
for_at inside w ts =
    expect T.OpenParenthesis ts >>= λ o. up_to T.Semicolon o.1 >>= λ a. up_to T.Semicolon a.1 >>= λ b. up_to T.CloseParenthesis b.1 >>= λ c.
    inside c.1 >>= λ e. Ok (for_loop w a.0 b.0 c.0 e.0, e.1)

unfoldable pub goto_at : Site → Reader StatementTree
goto_at w ts = up_to T.Semicolon ts >>= λ x. Ok (goto w x.0, x.1)

unfoldable pub return_at : Site → Reader StatementTree
return_at w ts = up_to T.Semicolon ts >>= λ x. Ok (return w x.0, x.1)

-- what a word alone is, up to its semicolon
unfoldable pub word_at : StatementTree → Reader StatementTree
word_at s ts = expect T.Semicolon ts >>= λ e. Ok (s, e.1)

-- a declaration or an expression, and its semicolon
unfoldable pub simple_at : Reader StatementTree
simple_at ts = or_else (front_if begins_simple ts) (λ t. up_to T.Semicolon ts >>= λ x. Ok (simple x.0, x.1)) (Err (wrong ts))

-- a statement without labels by its first terminal, which t has; `all` has t too
abbrev pub unlabelled_by : Terminal → Reader StatementTree → Lexeme → List Lexeme → Reader StatementTree
unlabelled_by T.Semicolon inside t all ts = Ok (empty, ts)
unlabelled_by T.OpenBrace inside t all ts = block_at inside ts
unlabelled_by T.If inside t all ts = if_at inside t.site ts
unlabelled_by T.Switch inside t all ts = switch_at inside t.site ts
unlabelled_by T.While inside t all ts = while_at inside t.site ts
unlabelled_by T.Do inside t all ts = do_at inside t.site ts
unlabelled_by T.For inside t all ts = for_at inside t.site ts
unlabelled_by T.Goto inside t all ts = goto_at t.site ts
unlabelled_by T.Break inside t all ts = word_at (break t.site) ts
unlabelled_by T.Continue inside t all ts = word_at (continue t.site) ts
unlabelled_by T.Return inside t all ts = return_at t.site ts
unlabelled_by _ inside t all ts = simple_at all

unfoldable pub unlabelled_of : Reader StatementTree → Reader StatementTree
unlabelled_of inside [] = Err (wrong [])
unlabelled_of inside (t ∷ ts) = unlabelled_by t.terminal inside t (t ∷ ts) ts

unfoldable pub statement_of : Reader StatementTree → Reader StatementTree
statement_of inside ts = labels_at (length ts) ts >>= λ ls. unlabelled_of inside ls.1 >>= λ s. Ok (labelled_by ls.0 s.0, s.1)

abbrev pub no_statement : Reader StatementTree
no_statement ts = Err (deep ts)

-- where so many may stand within one another
unfoldable pub statement_at : ℕ → Reader StatementTree
statement_at zero = no_statement
statement_at (suc d) = statement_of (statement_at d)

-- the items up to the closing brace of a function's body
unfoldable pub body_at : ℕ → Reader (List StatementTree)
body_at d ts = items_at (length ts) (statement_at d) ts
