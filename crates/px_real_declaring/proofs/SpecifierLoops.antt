-- What the loop over specifiers keeps, turn by turn.
use Rattle.std.proofs.Common.{◌≡◌, ℕ, suc, ◌-◌, ◌+◌, ◌<◌, Bool, ◌||◌, List, [], ◌∷◌, ◌++◌, Option, Some, None, Ok, refl, sym, ap, subst, ◌∙◌, arith}
use Rattle.px_real_expressions.specs.Lexemes.{Lexeme}
use Rattle.px_real_expressions.specs.Stops.{Read, ◌>>=◌}
use Rattle.px_real_symbols.specs.declared.fault.Fault.{Fault}
use Rattle.px_real_symbols.specs.Symbols.{first}
use Rattle.px_real_symbols.specs.Answers.{IsFaultOf}
use Rattle.px_real_symbols.proofs.AnswerLemmas.{passes_on}
use Rattle.px_real_blocks.proofs.Loops.{after_all, after_one, after_last}
use Rattle.px_real_declarations.specs.DeclarationTree.{SpecifierTree, says_type}
use Rattle.px_real_declarations.specs.Grammar.{Types}
use Rattle.px_real_declarations.specs.Roles.{role}
use Rattle.px_real_declarations.specs.Reading.{specifier_by, specifier_at, specifiers_at}
use Rattle.px_real_declarations.proofs.SpecifierExact.{ReadSpecifier, specifier_sound}

-- the reader of one, by the token at the front
pub specifier_is : (types : Types) (said : Bool) (ts : List Lexeme) (x : Lexeme × List Lexeme) → Some x ≡ first ts → specifier_at types said ts ≡ specifier_by (role x.0) types said ts x.0 x.1
unfolding specifier_at
specifier_is types said [] x h = absurd cc
specifier_is types said (t ∷ ts) x h = let p : x ≡ (t, ts) = cc in rw p refl

pub no_specifier_at : (types : Types) (said : Bool) (ts : List Lexeme) → None ≡ first ts → specifier_at types said ts ≡ Ok (None, ts)
unfolding specifier_at
no_specifier_at types said [] h = refl
no_specifier_at types said (t ∷ ts) h = absurd cc

-- where none was read, nothing was
nothing_read : (types : Types) (said : Bool) (ts us : List Lexeme) (o : Option SpecifierTree) → o ≡ None → specifier_at types said ts ≡ Ok (o, us) → ts ≡ us
nothing_read types said ts us o n h = (subst (λ z. ReadSpecifier types said ts z us) n (specifier_sound types said ts o us h)).0

pub specifiers_left : (types : Types) (limit i : ℕ) (said : Bool) (before : List SpecifierTree) (rest us : List Lexeme) (o : Option SpecifierTree) (total : Read (List SpecifierTree)) → i < limit → o ≡ None → specifier_at types said rest ≡ Ok (o, us) →
    after_all before (specifiers_at types (limit - i) said rest) ≡ total → total ≡ Ok (before, rest)
unfolding specifiers_at
specifiers_left types limit i said before rest us o total lt n h so_far =
    let s : limit - i ≡ suc (limit - (i + 1)) = omega arith in
    let e : us ≡ rest = sym (nothing_read types said rest us o n h) in
    sym so_far ∙ rw (s, h, n, e) (after_last before rest)

pub specifiers_next : (types : Types) (limit i : ℕ) (said said1 : Bool) (before : List SpecifierTree) (rest us : List Lexeme) (o : Option SpecifierTree) (x : SpecifierTree) (total : Read (List SpecifierTree)) → i < limit →
    o ≡ Some x → specifier_at types said rest ≡ Ok (o, us) → said1 ≡ (said || says_type x) →
    after_all before (specifiers_at types (limit - i) said rest) ≡ total → after_all (before ++ x ∷ []) (specifiers_at types (limit - (i + 1)) said1 us) ≡ total
unfolding specifiers_at
specifiers_next types limit i said said1 before rest us o x total lt n h e so_far =
    let s : limit - i ≡ suc (limit - (i + 1)) = omega arith in
    let one : specifiers_at types (limit - i) said rest ≡ (specifiers_at types (limit - (i + 1)) (said || says_type x) us >>= λ y. Ok (x ∷ y.0, y.1)) = rw (s, h, n) refl in
    rw e (after_one before x (specifiers_at types (limit - (i + 1)) (said || says_type x) us) ∙ ap (after_all before) (sym one) ∙ so_far)

pub specifiers_err : (types : Types) (e : Fault) (all : List Lexeme) (limit i : ℕ) (said : Bool) (before : List SpecifierTree) (rest : List Lexeme) (total : Read (List SpecifierTree)) → i < limit →
    IsFaultOf all e (specifier_at types said rest) → after_all before (specifiers_at types (limit - i) said rest) ≡ total → IsFaultOf all e total
unfolding specifiers_at
specifiers_err types e all limit i said before rest total lt f so_far =
    let s : limit - i ≡ suc (limit - (i + 1)) = omega arith in
    passes_on e all (specifier_at types said rest) total (λ st g. sym so_far ∙ rw (s, g) refl) f

pub specifiers_full : (types : Types) (n : ℕ) (said : Bool) (before : List SpecifierTree) (rest : List Lexeme) (total : Read (List SpecifierTree)) → n ≡ 0 → after_all before (specifiers_at types n said rest) ≡ total → total ≡ Ok (before, rest)
unfolding specifiers_at
specifiers_full types n said before rest total h so_far = sym so_far ∙ rw h (after_last before rest)
