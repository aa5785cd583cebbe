-- What the loop over the statements of a block keeps, turn by turn.
use Rattle.std.proofs.Common.{◌≡◌, ℕ, suc, ◌-◌, ◌+◌, ◌<◌, ◌≤◌, List, [], ◌∷◌, ◌++◌, Option, Some, None, refl, sym, ◌∙◌, arith}
use Rattle.px_expressions.specs.declared.fault.Fault.{Fault}
use Rattle.px_expressions.specs.declared.fault.Fault.TheVariants.{NoMemory, NoParse}
use Rattle.px_expressions.specs.declared.terminal.Terminal.TheVariants as T
use Rattle.px_expressions.specs.Lexemes.{Lexeme, front}
use Rattle.px_expressions.specs.Reading.{Reader, IsFaultOf}
use Rattle.px_syntax.specs.StatementTree.{StatementTree}
use Rattle.px_statements.specs.StatementReading.{statements_at}

abbrev Front : Type 0
Front = Lexeme × List Lexeme

pub statements_done : (limit i : ℕ) (inside : Reader StatementTree) (before : List StatementTree) (ts : List Lexeme) (x : Front) (total : Option (List StatementTree × List Lexeme)) →
    i < limit → Some x ≡ front T.CloseBrace ts → statements_at (limit - i) inside before ts ≡ total → total ≡ Some (before, x.1)
unfolding statements_at
statements_done limit i inside before ts x total lt h so_far =
    let s : limit - i ≡ suc (limit - (i + 1)) = omega arith in
    let one : statements_at (limit - i) inside before ts ≡ Some (before, x.1) = rw (s, ← h) refl in
    sym so_far ∙ one

pub statements_err : (e : Fault) (limit i : ℕ) (inside : Reader StatementTree) (before : List StatementTree) (ts : List Lexeme) (total : Option (List StatementTree × List Lexeme)) →
    i < limit → None ≡ front T.CloseBrace ts → IsFaultOf e (inside ts) → statements_at (limit - i) inside before ts ≡ total → IsFaultOf e total
unfolding statements_at
statements_err NoMemory limit i inside before ts total lt h f so_far = tt
statements_err NoParse limit i inside before ts total lt h f so_far =
    let s : limit - i ≡ suc (limit - (i + 1)) = omega arith in
    let one : statements_at (limit - i) inside before ts ≡ None = rw (s, ← h, f) refl in
    sym so_far ∙ one

pub statements_next : (limit i : ℕ) (inside : Reader StatementTree) (before : List StatementTree) (ts : List Lexeme) (y : StatementTree × List Lexeme) (total : Option (List StatementTree × List Lexeme)) →
    i < limit → None ≡ front T.CloseBrace ts → inside ts ≡ Some y → statements_at (limit - i) inside before ts ≡ total →
    statements_at (limit - (i + 1)) inside (before ++ y.0 ∷ []) y.1 ≡ total
unfolding statements_at
statements_next limit i inside before ts y total lt h f so_far =
    let s : limit - i ≡ suc (limit - (i + 1)) = omega arith in
    let one : statements_at (limit - i) inside before ts ≡ statements_at (limit - (i + 1)) inside (before ++ y.0 ∷ []) y.1 = rw (s, ← h, f) refl in
    sym one ∙ so_far

pub statements_end : (limit i : ℕ) (inside : Reader StatementTree) (before : List StatementTree) (ts : List Lexeme) (total : Option (List StatementTree × List Lexeme)) →
    limit ≤ i → statements_at (limit - i) inside before ts ≡ total → total ≡ None
unfolding statements_at
statements_end limit i inside before ts total le so_far =
    let s : limit - i ≡ 0 = omega arith in
    let one : statements_at (limit - i) inside before ts ≡ None = rw s refl in
    sym so_far ∙ one
