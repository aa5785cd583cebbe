-- What a declaration lists.
use Rattle.std.specs.Prelude.{ℕ, List, ◌∷◌, length, Bool, true, false, Ok}
use Rattle.px_real_expressions.specs.Stops.{◌>>=◌}
use Rattle.px_real_expressions.specs.Reading.{Reader}
use Rattle.px_real_expressions.specs.declared.terminal.Terminal.TheVariants as T
use Rattle.px_real_declarations.specs.DeclarationTree.{DeclaredTree}
use Rattle.px_real_declarations.specs.Grammar.{Types}
use Rattle.px_real_declarations.specs.Reading.{declared_at, member_at, more_declared}

-- how many parentheses and stars may stand within one another in a declarator
abbrev pub nesting_limit : ℕ
nesting_limit = 200

-- one of members, or another
abbrev pub item_at : Types → Bool → Reader DeclaredTree
item_at types true = member_at types nesting_limit
item_at types false = declared_at types nesting_limit T.Equal

-- this one, and what follows it behind commas
abbrev pub with_more : Reader DeclaredTree → DeclaredTree → Reader (List DeclaredTree)
with_more item x ts = more_declared (length ts) item ts >>= λ y. Ok (x ∷ y.0, y.1)
