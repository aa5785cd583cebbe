-- What the loop over the fields of a struct keeps, turn by turn.
use Rattle.std.proofs.Common.{◌≡◌, ℕ, suc, ◌-◌, ◌+◌, ◌<◌, ◌≤◌, List, [], ◌∷◌, ◌++◌, Option, Some, None, refl, sym, ◌∙◌, arith}
use Rattle.px_expressions.specs.declared.fault.Fault.{Fault}
use Rattle.px_expressions.specs.declared.fault.Fault.TheVariants.{NoMemory, NoParse}
use Rattle.px_expressions.specs.declared.terminal.Terminal.TheVariants as T
use Rattle.px_expressions.specs.Lexemes.{Lexeme, front}
use Rattle.px_expressions.specs.Reading.{IsFaultOf}
use Rattle.px_parser.specs.ItemReading.{field_at, more_fields}
use Rattle.px_syntax.specs.declared.item.FieldDeclaration.{FieldDeclaration}

abbrev Front : Type 0
Front = Lexeme × List Lexeme

pub fields_done : (limit i : ℕ) (before : List FieldDeclaration) (ts : List Lexeme) (x : Front) (total : Option (List FieldDeclaration × List Lexeme)) →
    i < limit → Some x ≡ front T.CloseBrace ts → more_fields (limit - i) before ts ≡ total → total ≡ Some (before, x.1)
unfolding more_fields
fields_done limit i before ts x total lt h so_far =
    let s : limit - i ≡ suc (limit - (i + 1)) = omega arith in
    let one : more_fields (limit - i) before ts ≡ Some (before, x.1) = rw (s, ← h) refl in
    sym so_far ∙ one

pub fields_err : (e : Fault) (limit i : ℕ) (before : List FieldDeclaration) (ts : List Lexeme) (total : Option (List FieldDeclaration × List Lexeme)) →
    i < limit → None ≡ front T.CloseBrace ts → IsFaultOf e (field_at ts) → more_fields (limit - i) before ts ≡ total → IsFaultOf e total
unfolding more_fields
fields_err NoMemory limit i before ts total lt h f so_far = tt
fields_err NoParse limit i before ts total lt h f so_far =
    let s : limit - i ≡ suc (limit - (i + 1)) = omega arith in
    let one : more_fields (limit - i) before ts ≡ None = rw (s, ← h, f) refl in
    sym so_far ∙ one

pub fields_next : (limit i : ℕ) (before : List FieldDeclaration) (ts : List Lexeme) (y : FieldDeclaration × List Lexeme) (total : Option (List FieldDeclaration × List Lexeme)) →
    i < limit → None ≡ front T.CloseBrace ts → field_at ts ≡ Some y → more_fields (limit - i) before ts ≡ total →
    more_fields (limit - (i + 1)) (before ++ y.0 ∷ []) y.1 ≡ total
unfolding more_fields
fields_next limit i before ts y total lt h f so_far =
    let s : limit - i ≡ suc (limit - (i + 1)) = omega arith in
    let one : more_fields (limit - i) before ts ≡ more_fields (limit - (i + 1)) (before ++ y.0 ∷ []) y.1 = rw (s, ← h, f) refl in
    sym one ∙ so_far

pub fields_end : (limit i : ℕ) (before : List FieldDeclaration) (ts : List Lexeme) (total : Option (List FieldDeclaration × List Lexeme)) →
    limit ≤ i → more_fields (limit - i) before ts ≡ total → total ≡ None
unfolding more_fields
fields_end limit i before ts total le so_far =
    let s : limit - i ≡ 0 = omega arith in
    let one : more_fields (limit - i) before ts ≡ None = rw s refl in
    sym so_far ∙ one
