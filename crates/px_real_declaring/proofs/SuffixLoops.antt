-- What the loop over what stands behind a declarator keeps, turn by turn.
use Rattle.std.proofs.Common.{◌≡◌, ℕ, suc, ◌-◌, ◌+◌, ◌<◌, List, [], ◌∷◌, ◌++◌, Option, Some, None, Ok, Err, refl, sym, ◌∙◌, arith}
use Rattle.px_expressions.specs.Reading.{or_else}
use Rattle.px_real_expressions.specs.declared.terminal.Terminal.TheVariants as T
use Rattle.px_real_expressions.specs.Lexemes.{Lexeme, front}
use Rattle.px_real_expressions.specs.Stops.{Read, ◌>>=◌}
use Rattle.px_real_expressions.specs.Reading.{closed_at, held_up_to}
use Rattle.px_real_symbols.specs.declared.fault.Fault.{Fault}
use Rattle.px_real_symbols.specs.Answers.{IsFaultOf}
use Rattle.px_real_symbols.proofs.AnswerLemmas.{passes_on}
use Rattle.px_real_declarations.specs.DeclarationTree.{DeclaratorTree, array, function}
use Rattle.px_real_declarations.specs.Reading.{behind_at}
use Rattle.px_real_declaring.specs.declared.tree.Suffix.{Suffix}
use Rattle.px_real_declaring.specs.declared.tree.Suffix.TheVariants as B
use Rattle.px_real_declaring.specs.Suffixes.{SuffixTree, an_array, a_function, suffix_tree, suffix_at}
use Rattle.px_real_declaring.specs.Trees.{suffixed, all_suffixed}

-- a declarator with one more behind it
abbrev pub with_suffix : DeclaratorTree → SuffixTree → DeclaratorTree
with_suffix left (an_array site held) = array site left held
with_suffix left (a_function site held) = function site left held

abbrev goes_on : ℕ → DeclaratorTree → Option SuffixTree × List Lexeme → Read DeclaratorTree
goes_on n left (Some s, us) = behind_at n (with_suffix left s) us
goes_on n left (None, us) = Ok (left, us)

-- the reader of all behind a declarator, one by one
step_is : (n : ℕ) (left : DeclaratorTree) (ts : List Lexeme) → behind_at (suc n) left ts ≡ (suffix_at ts >>= goes_on n left)
unfolding behind_at suffix_at
step_is n left ts = by (front T.OpenBracket ts) (front T.OpenParenthesis ts)
  where
    arrays : (o : Lexeme) (r : Read (List Lexeme)) → (r >>= λ x. behind_at n (array o.site left x.0) x.1) ≡ ((r >>= λ x. Ok (Some (an_array o.site x.0), x.1)) >>= goes_on n left)
    arrays o (Ok x) = refl
    arrays o (Err s) = refl

    functions : (o : Lexeme) (r : Read (List Lexeme)) → (r >>= λ x. behind_at n (function o.site left x.0) x.1) ≡ ((r >>= λ x. Ok (Some (a_function o.site x.0), x.1)) >>= goes_on n left)
    functions o (Ok x) = refl
    functions o (Err s) = refl

    by : (o p : Option (Lexeme × List Lexeme)) →
        or_else o (λ b. closed_at T.CloseBracket (held_up_to T.CloseBracket) b.1 >>= λ x. behind_at n (array b.0.site left x.0) x.1)
        (or_else p (λ b. closed_at T.CloseParenthesis (held_up_to T.CloseParenthesis) b.1 >>= λ x. behind_at n (function b.0.site left x.0) x.1) (Ok (left, ts)))
        ≡ (or_else o (λ b. closed_at T.CloseBracket (held_up_to T.CloseBracket) b.1 >>= λ x. Ok (Some (an_array b.0.site x.0), x.1))
        (or_else p (λ b. closed_at T.CloseParenthesis (held_up_to T.CloseParenthesis) b.1 >>= λ x. Ok (Some (a_function b.0.site x.0), x.1)) (Ok (None, ts))) >>= goes_on n left)
    by (Some b) p = arrays b.0 (closed_at T.CloseBracket (held_up_to T.CloseBracket) b.1)
    by None (Some b) = functions b.0 (closed_at T.CloseParenthesis (held_up_to T.CloseParenthesis) b.1)
    by None None = refl

pub suffixes_left : (limit i : ℕ) (left : DeclaratorTree) (rest us : List Lexeme) (o : Option SuffixTree) (total : Read DeclaratorTree) → i < limit → o ≡ None → suffix_at rest ≡ Ok (o, us) →
    behind_at (limit - i) left rest ≡ total → total ≡ Ok (left, us)
suffixes_left limit i left rest us o total lt n h so_far =
    let s : limit - i ≡ suc (limit - (i + 1)) = omega arith in
    sym so_far ∙ rw s (step_is (limit - (i + 1)) left rest ∙ rw (h, n) refl)

pub suffixes_next : (limit i : ℕ) (left : DeclaratorTree) (rest us : List Lexeme) (o : Option SuffixTree) (x : SuffixTree) (total : Read DeclaratorTree) → i < limit → o ≡ Some x → suffix_at rest ≡ Ok (o, us) →
    behind_at (limit - i) left rest ≡ total → behind_at (limit - (i + 1)) (with_suffix left x) us ≡ total
suffixes_next limit i left rest us o x total lt n h so_far =
    let s : limit - i ≡ suc (limit - (i + 1)) = omega arith in
    let one : behind_at (limit - i) left rest ≡ behind_at (limit - (i + 1)) (with_suffix left x) us = rw s (step_is (limit - (i + 1)) left rest ∙ rw (h, n) refl) in
    sym one ∙ so_far

pub suffixes_err : (e : Fault) (all : List Lexeme) (limit i : ℕ) (left : DeclaratorTree) (rest : List Lexeme) (total : Read DeclaratorTree) → i < limit → IsFaultOf all e (suffix_at rest) →
    behind_at (limit - i) left rest ≡ total → IsFaultOf all e total
suffixes_err e all limit i left rest total lt f so_far =
    let s : limit - i ≡ suc (limit - (i + 1)) = omega arith in
    passes_on e all (suffix_at rest) total (λ st g. sym so_far ∙ rw s (step_is (limit - (i + 1)) left rest ∙ rw g refl)) f

pub suffixes_full : (n : ℕ) (left : DeclaratorTree) (rest : List Lexeme) (total : Read DeclaratorTree) → n ≡ 0 → behind_at n left rest ≡ total → total ≡ Ok (left, rest)
unfolding behind_at
suffixes_full n left rest total h so_far = sym so_far ∙ rw h refl

-- one more at the end
pub suffixed_last : (all : List Lexeme) (d : DeclaratorTree) (xs : List Suffix) (x : Suffix) → all_suffixed all d (xs ++ x ∷ []) ≡ with_suffix (all_suffixed all d xs) (suffix_tree all x)
suffixed_last all d [] (B.Array site held) = refl
suffixed_last all d [] (B.Function site held) = refl
suffixed_last all d (y ∷ xs) x = suffixed_last all (suffixed all d y) xs x
