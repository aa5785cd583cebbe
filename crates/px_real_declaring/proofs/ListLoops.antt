-- What the loop over all that is declared keeps, turn by turn.
use Rattle.std.proofs.Common.{◌≡◌, ℕ, suc, true, false, ◌-◌, ◌+◌, ◌<◌, List, [], ◌∷◌, ◌++◌, length, Some, None, Ok, refl, sym, ap, ◌∙◌, arith}
use Rattle.px_real_expressions.specs.declared.terminal.Terminal.TheVariants as T
use Rattle.px_real_expressions.specs.Lexemes.{Lexeme, front}
use Rattle.px_real_expressions.specs.Stops.{Read, ◌>>=◌}
use Rattle.px_real_expressions.specs.Reading.{Reader}
use Rattle.px_real_symbols.specs.declared.fault.Fault.{Fault}
use Rattle.px_real_symbols.specs.Answers.{IsFaultOf}
use Rattle.px_real_symbols.proofs.AnswerLemmas.{passes_on}
use Rattle.px_real_blocks.proofs.Loops.{after_all, after_one, after_last}
use Rattle.px_real_declarations.specs.DeclarationTree.{DeclaredTree}
use Rattle.px_real_declarations.specs.Reading.{more_declared, is_over, listed_at}
use Rattle.px_real_declaring.specs.Items.{with_more}

pub more_first : (item : Reader DeclaredTree) (x : DeclaredTree) (n : ℕ) (ts : List Lexeme) → n ≡ length ts → after_all (x ∷ []) (more_declared n item ts) ≡ with_more item x ts
more_first item x n ts h = rw h refl

pub more_left : (limit i : ℕ) (item : Reader DeclaredTree) (before : List DeclaredTree) (rest : List Lexeme) (total : Read (List DeclaredTree)) → i < limit → None ≡ front T.Comma rest →
    after_all before (more_declared (limit - i) item rest) ≡ total → total ≡ Ok (before, rest)
unfolding more_declared
more_left limit i item before rest total lt h so_far =
    let s : limit - i ≡ suc (limit - (i + 1)) = omega arith in
    sym so_far ∙ rw (s, ← h) (after_last before rest)

pub more_next : (limit i : ℕ) (item : Reader DeclaredTree) (before : List DeclaredTree) (rest us : List Lexeme) (c : Lexeme × List Lexeme) (x : DeclaredTree) (total : Read (List DeclaredTree)) → i < limit →
    Some c ≡ front T.Comma rest → item c.1 ≡ Ok (x, us) → after_all before (more_declared (limit - i) item rest) ≡ total → after_all (before ++ x ∷ []) (more_declared (limit - (i + 1)) item us) ≡ total
unfolding more_declared
more_next limit i item before rest us c x total lt h g so_far =
    let s : limit - i ≡ suc (limit - (i + 1)) = omega arith in
    let one : more_declared (limit - i) item rest ≡ (more_declared (limit - (i + 1)) item us >>= λ y. Ok (x ∷ y.0, y.1)) = rw (s, ← h, g) refl in
    after_one before x (more_declared (limit - (i + 1)) item us) ∙ ap (after_all before) (sym one) ∙ so_far

pub more_err : (e : Fault) (all : List Lexeme) (limit i : ℕ) (item : Reader DeclaredTree) (before : List DeclaredTree) (rest : List Lexeme) (c : Lexeme × List Lexeme) (total : Read (List DeclaredTree)) → i < limit →
    Some c ≡ front T.Comma rest → IsFaultOf all e (item c.1) → after_all before (more_declared (limit - i) item rest) ≡ total → IsFaultOf all e total
unfolding more_declared
more_err e all limit i item before rest c total lt h f so_far =
    let s : limit - i ≡ suc (limit - (i + 1)) = omega arith in
    passes_on e all (item c.1) total (λ st g. sym so_far ∙ rw (s, ← h, g) refl) f

pub more_full : (n : ℕ) (item : Reader DeclaredTree) (before : List DeclaredTree) (rest : List Lexeme) (total : Read (List DeclaredTree)) → n ≡ 0 → after_all before (more_declared n item rest) ≡ total → total ≡ Ok (before, rest)
unfolding more_declared
more_full n item before rest total h so_far = sym so_far ∙ rw h (after_last before rest)

-- the first of them, where not all is over
pub listed_is : (item : Reader DeclaredTree) (ts : List Lexeme) → false ≡ is_over ts → listed_at item ts ≡ (item ts >>= λ x. with_more item x.0 x.1)
listed_is item ts h = rw (← h) refl

pub nothing_listed : (item : Reader DeclaredTree) (ts : List Lexeme) → true ≡ is_over ts → listed_at item ts ≡ Ok ([], ts)
nothing_listed item ts h = rw (← h) refl

pub listed_err : (e : Fault) (all : List Lexeme) (item : Reader DeclaredTree) (ts : List Lexeme) → false ≡ is_over ts → IsFaultOf all e (item ts) → IsFaultOf all e (listed_at item ts)
listed_err e all item ts h f = passes_on e all (item ts) (listed_at item ts) (λ st g. listed_is item ts h ∙ rw g refl) f

pub listed_so : (item : Reader DeclaredTree) (ts us : List Lexeme) (x : DeclaredTree) → false ≡ is_over ts → item ts ≡ Ok (x, us) → listed_at item ts ≡ with_more item x us
listed_so item ts us x h g = listed_is item ts h ∙ rw g refl
