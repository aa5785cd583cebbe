-- What the loops of the reader keep, turn by turn.
use Rattle.std.proofs.Common.{◌≡◌, ℕ, zero, suc, ◌-◌, ◌+◌, ◌<◌, ◌≤◌, List, [], ◌∷◌, ◌++◌, length, Some, None, Ok, Err, refl, sym, ap, subst, ◌∙◌, append_assoc, arith}
use Rattle.std.proofs.lemmas.List.{append-nil}
use Rattle.px_real_expressions.specs.declared.terminal.Terminal.TheVariants as T
use Rattle.px_real_expressions.specs.declared.operators.Operator.{Operator}
use Rattle.px_real_expressions.specs.Lexemes.{Lexeme, front}
use Rattle.px_real_expressions.specs.Operators.{operator_at, front_by}
use Rattle.px_real_expressions.specs.ExpressionTree.{ExpressionTree, binary}
use Rattle.px_real_expressions.specs.Stops.{Stop, Read, ◌>>=◌, expect}
use Rattle.px_real_expressions.specs.Reading.{Reader, more_at, chain_at, levels_at, more_items, arguments_at}
use Rattle.px_real_symbols.specs.declared.fault.Fault.{Fault}
use Rattle.px_real_symbols.specs.Answers.{IsFaultOf}
use Rattle.px_real_reading.specs.Parts.{closed_items}
use Rattle.px_real_symbols.proofs.AnswerLemmas.{passes_on}

abbrev AnOperator : Type 0
AnOperator = Operator × Lexeme × List Lexeme

-- ---- operators

pub chain_left : (n k : ℕ) (part : Reader ExpressionTree) (left : ExpressionTree) (rest : List Lexeme) → None ≡ front_by (operator_at k) rest → more_at n k part left rest ≡ Ok (left, rest)
unfolding more_at
chain_left zero k part left rest h = refl
chain_left (suc n) k part left rest h = rw (← h) refl

pub chain_full : (n k : ℕ) (part : Reader ExpressionTree) (left : ExpressionTree) (rest : List Lexeme) → n ≡ 0 → more_at n k part left rest ≡ Ok (left, rest)
unfolding more_at
chain_full n k part left rest h = rw h refl

pub chain_err : (e : Fault) (all : List Lexeme) (limit i k : ℕ) (part : Reader ExpressionTree) (left : ExpressionTree) (rest : List Lexeme) (x : AnOperator) (total : Read ExpressionTree) →
    i < limit → Some x ≡ front_by (operator_at k) rest → IsFaultOf all e (part x.2) → more_at (limit - i) k part left rest ≡ total → IsFaultOf all e total
unfolding more_at
chain_err e all limit i k part left rest x total lt h f so_far =
    let s : limit - i ≡ suc (limit - (i + 1)) = omega arith in
    passes_on e all (part x.2) total (λ st g. sym so_far ∙ rw (s, ← h, g) refl) f

pub chain_next : (limit i k : ℕ) (part : Reader ExpressionTree) (left : ExpressionTree) (rest : List Lexeme) (x : AnOperator) (y : ExpressionTree × List Lexeme) (total : Read ExpressionTree) →
    i < limit → Some x ≡ front_by (operator_at k) rest → part x.2 ≡ Ok y → more_at (limit - i) k part left rest ≡ total →
    more_at (limit - (i + 1)) k part (binary x.0 x.1.site left y.0) y.1 ≡ total
unfolding more_at
chain_next limit i k part left rest x y total lt h f so_far =
    let s : limit - i ≡ suc (limit - (i + 1)) = omega arith in
    let one : more_at (limit - i) k part left rest ≡ more_at (limit - (i + 1)) k part (binary x.0 x.1.site left y.0) y.1 = rw (s, ← h, f) refl in
    sym one ∙ so_far

-- ---- a chain of commas, from its first operand on

pub whole_chain : (k : ℕ) (part : Reader ExpressionTree) (ts : List Lexeme) (x : ExpressionTree × List Lexeme) → part ts ≡ Ok x → chain_at k part ts ≡ more_at (length x.1) k part x.0 x.1
unfolding chain_at
whole_chain k part ts x h = rw h refl

pub no_chain : (e : Fault) (all : List Lexeme) (k : ℕ) (part : Reader ExpressionTree) (ts : List Lexeme) → IsFaultOf all e (part ts) → IsFaultOf all e (chain_at k part ts)
unfolding chain_at
no_chain e all k part ts f = passes_on e all (part ts) (chain_at k part ts) (λ st g. rw g refl) f

-- ---- levels

err_above : (part : Reader ExpressionTree) (ts : List Lexeme) (st : Stop) (k j n : ℕ) → n ≡ k + j → levels_at k part ts ≡ Err st → levels_at n part ts ≡ Err st
unfolding levels_at chain_at
err_above part ts st k zero n e h = let same : n ≡ k = omega arith in rw same h
err_above part ts st k (suc j) n e h =
    let s : n ≡ suc (k + j) = omega arith in
    let below : levels_at (k + j) part ts ≡ Err st = err_above part ts st k j (k + j) refl h in
    rw (s, below) refl

-- a level more
next_level : (part : Reader ExpressionTree) (ts : List Lexeme) (i k m : ℕ) (x : ExpressionTree × List Lexeme) (y : Read ExpressionTree) →
    k ≡ i + 1 → m ≡ i → levels_at i part ts ≡ Ok x → more_at (length x.1) k (levels_at m part) x.0 x.1 ≡ y → levels_at k part ts ≡ y
unfolding levels_at chain_at
next_level part ts i k m x y ek em h f =
    let s : k ≡ suc i = omega arith in
    let one : more_at (length x.1) (suc i) (levels_at i part) x.0 x.1 ≡ y =
    subst (λ z. more_at (length x.1) (suc i) (levels_at z part) x.0 x.1 ≡ y) em (subst (λ z. more_at (length x.1) z (levels_at m part) x.0 x.1 ≡ y) s f) in
    rw (s, h) one

pub levels_first : (e : Fault) (all : List Lexeme) (part : Reader ExpressionTree) (ts : List Lexeme) (n : ℕ) → IsFaultOf all e (part ts) → IsFaultOf all e (levels_at n part ts)
unfolding levels_at
levels_first e all part ts n f = passes_on e all (part ts) (levels_at n part ts) (λ st g. err_above part ts st zero n n (omega arith) g) f

pub levels_same : (part : Reader ExpressionTree) (ts : List Lexeme) (i k : ℕ) (x : ExpressionTree × List Lexeme) → k ≡ i + 1 → levels_at i part ts ≡ Ok x → None ≡ front_by (operator_at k) x.1 → levels_at k part ts ≡ Ok x
levels_same part ts i k x ek h f = next_level part ts i k i x (Ok x) ek refl h (chain_left (length x.1) k (levels_at i part) x.0 x.1 f)

pub levels_next : (part : Reader ExpressionTree) (ts : List Lexeme) (i k m : ℕ) (x y : ExpressionTree × List Lexeme) →
    k ≡ i + 1 → m ≡ i → levels_at i part ts ≡ Ok x → more_at (length x.1) k (levels_at m part) x.0 x.1 ≡ Ok y → levels_at k part ts ≡ Ok y
levels_next part ts i k m x y ek em h f = next_level part ts i k m x (Ok y) ek em h f

pub levels_err : (e : Fault) (all : List Lexeme) (part : Reader ExpressionTree) (ts : List Lexeme) (i k m n : ℕ) (x : ExpressionTree × List Lexeme) →
    i < n → k ≡ i + 1 → m ≡ i → levels_at i part ts ≡ Ok x → IsFaultOf all e (more_at (length x.1) k (levels_at m part) x.0 x.1) → IsFaultOf all e (levels_at n part ts)
levels_err e all part ts i k m n x lt ek em h f =
    passes_on e all (more_at (length x.1) k (levels_at m part) x.0 x.1) (levels_at n part ts) (λ st g. err_above part ts st k (n - k) n (omega arith) (next_level part ts i k m x (Err st) ek em h g)) f

pub levels_done : (part : Reader ExpressionTree) (ts : List Lexeme) (i n : ℕ) (x : ExpressionTree × List Lexeme) → i ≤ n → n ≤ i → levels_at i part ts ≡ Ok x → levels_at n part ts ≡ Ok x
levels_done part ts i n x le ge h = let same : n ≡ i = omega arith in subst (λ z. levels_at z part ts ≡ Ok x) (sym same) h

-- ---- arguments

abbrev Front : Type 0
Front = Lexeme × List Lexeme

-- these items, and those that follow, up to the closing parenthesis
abbrev pub after_items : {A : Type 0} → List A → Read (List A) → Read (List A)
after_items before read = read >>= λ y. closed_items (before ++ y.0) y.1

pub items_first : (part : Reader ExpressionTree) (ts : List Lexeme) (x : ExpressionTree × List Lexeme) → None ≡ front T.CloseParenthesis ts → part ts ≡ Ok x →
    after_items (x.0 ∷ []) (more_items (length x.1) part x.1) ≡ arguments_at part ts
unfolding arguments_at
items_first part ts x h f = rw (← h, f) (joined (more_items (length x.1) part x.1))
  where
    joined : (read : Read (List ExpressionTree)) → after_items (x.0 ∷ []) read ≡ (read >>= λ y. expect T.CloseParenthesis y.1 >>= λ z. Ok (x.0 ∷ y.0, z.1))
    joined (Ok y) = refl
    joined (Err st) = refl

pub items_none : (e : Fault) (all : List Lexeme) (part : Reader ExpressionTree) (ts : List Lexeme) → None ≡ front T.CloseParenthesis ts → IsFaultOf all e (part ts) → IsFaultOf all e (arguments_at part ts)
unfolding arguments_at
items_none e all part ts h f = passes_on e all (part ts) (arguments_at part ts) (λ st g. rw (← h, g) refl) f

pub no_items : (part : Reader ExpressionTree) (ts : List Lexeme) (x : Front) → Some x ≡ front T.CloseParenthesis ts → arguments_at part ts ≡ Ok ([], x.1)
unfolding arguments_at
no_items part ts x h = rw (← h) refl

pub items_left : (n : ℕ) (part : Reader ExpressionTree) (before : List ExpressionTree) (rest : List Lexeme) → None ≡ front T.Comma rest → after_items before (more_items n part rest) ≡ closed_items before rest
unfolding more_items
items_left zero part before rest h = ap (λ z. closed_items z rest) (append-nil before)
items_left (suc n) part before rest h = rw (← h) (ap (λ z. closed_items z rest) (append-nil before))

pub items_full : (n : ℕ) (part : Reader ExpressionTree) (before : List ExpressionTree) (rest : List Lexeme) → n ≡ 0 → after_items before (more_items n part rest) ≡ closed_items before rest
unfolding more_items
items_full n part before rest h = rw h (ap (λ z. closed_items z rest) (append-nil before))

pub items_err : (e : Fault) (all : List Lexeme) (limit i : ℕ) (part : Reader ExpressionTree) (before : List ExpressionTree) (rest : List Lexeme) (x : Front) (total : Read (List ExpressionTree)) →
    i < limit → Some x ≡ front T.Comma rest → IsFaultOf all e (part x.1) → after_items before (more_items (limit - i) part rest) ≡ total → IsFaultOf all e total
unfolding more_items
items_err e all limit i part before rest x total lt h f so_far =
    let s : limit - i ≡ suc (limit - (i + 1)) = omega arith in
    passes_on e all (part x.1) total (λ st g. sym so_far ∙ rw (s, ← h, g) refl) f

pub items_next : (limit i : ℕ) (part : Reader ExpressionTree) (before : List ExpressionTree) (rest : List Lexeme) (x : Front) (y : ExpressionTree × List Lexeme) (total : Read (List ExpressionTree)) →
    i < limit → Some x ≡ front T.Comma rest → part x.1 ≡ Ok y → after_items before (more_items (limit - i) part rest) ≡ total →
    after_items (before ++ y.0 ∷ []) (more_items (limit - (i + 1)) part y.1) ≡ total
unfolding more_items
items_next limit i part before rest x y total lt h f so_far =
    let s : limit - i ≡ suc (limit - (i + 1)) = omega arith in
    let one : after_items before (more_items (limit - i) part rest) ≡ after_items (before ++ y.0 ∷ []) (more_items (limit - (i + 1)) part y.1) = rw (s, ← h, f) (joined (more_items (limit - (i + 1)) part y.1)) in
    sym one ∙ so_far
  where
    joined : (read : Read (List ExpressionTree)) → after_items before (read >>= λ z. Ok (y.0 ∷ z.0, z.1)) ≡ after_items (before ++ y.0 ∷ []) read
    joined (Ok z) = ap (λ v. closed_items v z.1) (sym (append_assoc before (y.0 ∷ []) z.0))
    joined (Err st) = refl
