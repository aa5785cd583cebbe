-- The reader of a statement, at any depth.
use Rattle.std.proofs.Common.{◌≡◌, ℕ, zero, suc, ◌-◌, List, [], ◌∷◌, refl, arith}
use Rattle.px_expressions.specs.Lexemes.{Lexeme}
use Rattle.px_expressions.specs.declared.terminal.Terminal.{Terminal}
use Rattle.px_expressions.specs.declared.terminal.Terminal.TheVariants as T
use Rattle.px_expressions.specs.Reading.{Reader}
use Rattle.px_statements.specs.StatementReading.{statement_by, statement_of, statement_at}
use Rattle.px_syntax.specs.StatementTree.{StatementTree}

-- where nothing may be opened it doesn't matter what is read inside
by_zero : (k : Terminal) (f g : Reader StatementTree) (t : Lexeme) (all ts : List Lexeme) → statement_by k 0 f t all ts ≡ statement_by k 0 g t all ts
by_zero T.OpenBrace f g t all ts = refl
by_zero T.If f g t all ts = refl
by_zero T.While f g t all ts = refl
by_zero T.For f g t all ts = refl
by_zero _ f g t all ts = refl

statement_zero : (f g : Reader StatementTree) (ts : List Lexeme) → statement_of 0 f ts ≡ statement_of 0 g ts
unfolding statement_of
statement_zero f g [] = refl
statement_zero f g (t ∷ ts) = by_zero t.terminal f g t (t ∷ ts) ts

pub statement_is : (d : ℕ) (ts : List Lexeme) → statement_of d (statement_at (d - 1)) ts ≡ statement_at d ts
unfolding statement_at
statement_is zero ts = statement_zero _ _ ts
statement_is (suc d) ts = let e : suc d - 1 ≡ d = omega arith in rw e refl
