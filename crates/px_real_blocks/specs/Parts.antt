-- What is read of a block, part by part.
use Rattle.std.specs.Prelude.{ℕ, Bool, false, List, [], ◌∷◌, drop, Option, Some, None, Result, Ok, Err}
use Rattle.px_real_expressions.specs.Lexemes.{Lexeme}
use Rattle.px_real_expressions.specs.Stops.{Stop, wrong, ◌>>=◌, expect}
use Rattle.px_real_expressions.specs.Grammar.{Between}
use Rattle.px_real_expressions.specs.Reading.{Reader, held_up_to}
use Rattle.px_real_expressions.specs.declared.terminal.Terminal.TheVariants as T
use Rattle.px_real_statements.specs.StatementTree.{StatementTree, unread}
use Rattle.px_real_statements.specs.Grammar.{IsBody}
use Rattle.px_real_statements.specs.Reading.{body_at}
use Rattle.px_real_blocks.specs.declared.tree.Statement.{Statement}
use Rattle.px_real_blocks.specs.Trees.{statement_tree}

-- no word is the name of a type
abbrev pub no_types : List ℕ → Bool
no_types word = false

-- how many statements may stand within one another
abbrev pub nesting_limit : ℕ
nesting_limit = 200

-- what was read, if something was
abbrev pub read_of : {A : Type 0} → Result A Stop → Option A
read_of (Ok x) = Some x
read_of (Err s) = None

-- a statement of the code and the number behind it, as the grammar sees them
abbrev pub read_view : List Lexeme → Statement × ℕ → StatementTree × List Lexeme
read_view all x = (statement_tree all x.0, drop x.1 all)

-- all up to a closing brace
unfoldable pub unread_at : Reader StatementTree
unread_at ts = held_up_to T.CloseBrace ts >>= λ x. expect T.CloseBrace x.1 >>= λ c. Ok (unread x.0, x.1)

-- the statements between the braces that all of these are
abbrev pub IsBracedBody : List Lexeme → List StatementTree → Type 0
IsBracedBody ts ss = (o : Lexeme) × Between T.OpenBrace T.CloseBrace (IsBody nesting_limit) ts o ss

abbrev pub nothing_left : List StatementTree → Reader (List StatementTree)
nothing_left ss [] = Ok (ss, [])
nothing_left ss (t ∷ ts) = Err (wrong (t ∷ ts))

-- braces, what stands between them, and nothing behind
unfoldable pub braced_at : ℕ → Reader (List StatementTree)
braced_at d ts = expect T.OpenBrace ts >>= λ o. body_at d o.1 >>= λ x. expect T.CloseBrace x.1 >>= λ c. nothing_left x.0 c.1
