-- What the loops of the parser keep, turn by turn.
use Rattle.std.proofs.Common.{◌≡◌, ℕ, zero, suc, ◌-◌, ◌+◌, ◌<◌, ◌≤◌, List, [], ◌∷◌, ◌++◌, length, Option, Some, None, refl, sym, subst, ◌∙◌, arith}
use Rattle.px_expressions.specs.declared.fault.Fault.{Fault}
use Rattle.px_expressions.specs.declared.fault.Fault.TheVariants.{NoMemory, NoParse}
use Rattle.px_expressions.specs.declared.terminal.Terminal.{Terminal}
use Rattle.px_expressions.specs.declared.terminal.Terminal.TheVariants as T
use Rattle.px_expressions.specs.Lexemes.{Lexeme, led_by, front}
use Rattle.px_expressions.specs.Reading.{Reader, IsFaultOf, chain_limit, levels_at, operator_front, name_at, more_at, members_at, more_items}
use Rattle.px_syntax.specs.declared.expression.BinaryOperator.{BinaryOperator}
use Rattle.px_syntax.specs.ExpressionTree.{ExpressionTree, binary, member}

abbrev Operator : Type 0
Operator = BinaryOperator × Lexeme × List Lexeme

abbrev Front : Type 0
Front = Lexeme × List Lexeme

-- ---- operators

pub chain_left : (n k : ℕ) (part : Reader ExpressionTree) (left : ExpressionTree) (rest : List Lexeme) → None ≡ operator_front k rest → more_at n k part left rest ≡ Some (left, rest)
unfolding more_at
chain_left zero k part left rest h = refl
chain_left (suc n) k part left rest h = rw (← h) refl

pub chain_full : (n k : ℕ) (part : Reader ExpressionTree) (left : ExpressionTree) (rest : List Lexeme) → n ≡ 0 → more_at n k part left rest ≡ Some (left, rest)
unfolding more_at
chain_full n k part left rest h = rw h refl

pub chain_err : (e : Fault) (limit i k : ℕ) (part : Reader ExpressionTree) (left : ExpressionTree) (rest : List Lexeme) (x : Operator) (total : Option (ExpressionTree × List Lexeme)) →
    i < limit → Some x ≡ operator_front k rest → IsFaultOf e (part x.2) → more_at (limit - i) k part left rest ≡ total → IsFaultOf e total
unfolding more_at
chain_err NoMemory limit i k part left rest x total lt h f so_far = tt
chain_err NoParse limit i k part left rest x total lt h f so_far =
    let s : limit - i ≡ suc (limit - (i + 1)) = omega arith in
    let one : more_at (limit - i) k part left rest ≡ None = rw (s, ← h, f) refl in
    sym so_far ∙ one

pub chain_next : (limit i k : ℕ) (part : Reader ExpressionTree) (left : ExpressionTree) (rest : List Lexeme) (x : Operator) (y : ExpressionTree × List Lexeme)
    (total : Option (ExpressionTree × List Lexeme)) →
    i < limit → Some x ≡ operator_front k rest → part x.2 ≡ Some y → more_at (limit - i) k part left rest ≡ total →
    more_at (limit - (i + 1)) k part (binary x.0 x.1.site left y.0) y.1 ≡ total
unfolding more_at
chain_next limit i k part left rest x y total lt h f so_far =
    let s : limit - i ≡ suc (limit - (i + 1)) = omega arith in
    let one : more_at (limit - i) k part left rest ≡ more_at (limit - (i + 1)) k part (binary x.0 x.1.site left y.0) y.1 = rw (s, ← h, f) refl in
    sym one ∙ so_far

-- ---- levels

none_above : (part : Reader ExpressionTree) (ts : List Lexeme) (k j n : ℕ) → n ≡ k + j → levels_at k part ts ≡ None → levels_at n part ts ≡ None
unfolding levels_at
none_above part ts k zero n e h = let same : n ≡ k = omega arith in rw same h
none_above part ts k (suc j) n e h =
    let s : n ≡ suc (k + j) = omega arith in
    let below : levels_at (k + j) part ts ≡ None = none_above part ts k j (k + j) refl h in
    rw (s, below) refl

-- a level more
next_level : (part : Reader ExpressionTree) (ts : List Lexeme) (i k m : ℕ) (x : ExpressionTree × List Lexeme) (y : Option (ExpressionTree × List Lexeme)) →
    k ≡ i + 1 → m ≡ i → levels_at i part ts ≡ Some x → more_at chain_limit k (levels_at m part) x.0 x.1 ≡ y → levels_at k part ts ≡ y
unfolding levels_at
next_level part ts i k m x y ek em h f =
    let s : k ≡ suc i = omega arith in
    let one : more_at chain_limit (suc i) (levels_at i part) x.0 x.1 ≡ y = subst (λ z. more_at chain_limit (suc i) (levels_at z part) x.0 x.1 ≡ y) em (subst (λ z. more_at chain_limit z (levels_at m part) x.0 x.1 ≡ y) s f) in
    rw (s, h) one

pub levels_unary : (e : Fault) (part : Reader ExpressionTree) (ts : List Lexeme) (n : ℕ) → IsFaultOf e (part ts) → IsFaultOf e (levels_at n part ts)
unfolding levels_at
levels_unary NoMemory part ts n f = tt
levels_unary NoParse part ts n f = none_above part ts zero n n (omega arith) f

pub levels_same : (part : Reader ExpressionTree) (ts : List Lexeme) (i k : ℕ) (x : ExpressionTree × List Lexeme) → k ≡ i + 1 → levels_at i part ts ≡ Some x → None ≡ operator_front k x.1 → levels_at k part ts ≡ Some x
levels_same part ts i k x ek h f = next_level part ts i k i x (Some x) ek refl h (chain_left chain_limit k (levels_at i part) x.0 x.1 f)

pub levels_next : (part : Reader ExpressionTree) (ts : List Lexeme) (i k m : ℕ) (x y : ExpressionTree × List Lexeme) →
    k ≡ i + 1 → m ≡ i → levels_at i part ts ≡ Some x → more_at chain_limit k (levels_at m part) x.0 x.1 ≡ Some y → levels_at k part ts ≡ Some y
levels_next part ts i k m x y ek em h f = next_level part ts i k m x (Some y) ek em h f

pub levels_err : (e : Fault) (part : Reader ExpressionTree) (ts : List Lexeme) (i k m n : ℕ) (x : ExpressionTree × List Lexeme) →
    i < n → k ≡ i + 1 → m ≡ i → levels_at i part ts ≡ Some x → IsFaultOf e (more_at chain_limit k (levels_at m part) x.0 x.1) → IsFaultOf e (levels_at n part ts)
levels_err NoMemory part ts i k m n x lt ek em h f = tt
levels_err NoParse part ts i k m n x lt ek em h f = none_above part ts k (n - k) n (omega arith) (next_level part ts i k m x None ek em h f)

pub levels_done : (part : Reader ExpressionTree) (ts : List Lexeme) (i n : ℕ) (x : ExpressionTree × List Lexeme) → i ≤ n → n ≤ i → levels_at i part ts ≡ Some x → levels_at n part ts ≡ Some x
levels_done part ts i n x le ge h = let same : n ≡ i = omega arith in subst (λ z. levels_at z part ts ≡ Some x) (sym same) h

-- ---- members

pub members_err : (e : Fault) (limit i : ℕ) (left : ExpressionTree) (rest : List Lexeme) (x : Front) (total : Option (ExpressionTree × List Lexeme)) →
    i < limit → Some x ≡ front T.Arrow rest → IsFaultOf e (name_at x.1) → members_at (limit - i) left rest ≡ total → IsFaultOf e total
unfolding members_at
members_err NoMemory limit i left rest x total lt h f so_far = tt
members_err NoParse limit i left rest x total lt h f so_far =
    let s : limit - i ≡ suc (limit - (i + 1)) = omega arith in
    let one : members_at (limit - i) left rest ≡ None = rw (s, ← h, f) refl in
    sym so_far ∙ one

pub members_next : (limit i : ℕ) (left : ExpressionTree) (rest : List Lexeme) (x : Front) (y : List ℕ × List Lexeme) (total : Option (ExpressionTree × List Lexeme)) →
    i < limit → Some x ≡ front T.Arrow rest → name_at x.1 ≡ Some y → members_at (limit - i) left rest ≡ total →
    members_at (limit - (i + 1)) (member left y.0 x.0.site) y.1 ≡ total
unfolding members_at
members_next limit i left rest x y total lt h f so_far =
    let s : limit - i ≡ suc (limit - (i + 1)) = omega arith in
    let one : members_at (limit - i) left rest ≡ members_at (limit - (i + 1)) (member left y.0 x.0.site) y.1 = rw (s, ← h, f) refl in
    sym one ∙ so_far

-- ---- lists with commas between

-- as many lexemes, whatever the first is
pub led_length : (k : Terminal) (ts : List Lexeme) → length (led_by k ts) ≡ length ts
led_length k [] = refl
led_length k (t ∷ ts) = refl

pub items_left : {A : Type 0} (n : ℕ) (part : Reader A) (before : List A) (rest : List Lexeme) → None ≡ front T.Comma rest → more_items n part before rest ≡ Some (before, rest)
unfolding more_items
items_left zero part before rest h = refl
items_left (suc n) part before rest h = rw (← h) refl

pub items_full : {A : Type 0} (n : ℕ) (part : Reader A) (before : List A) (rest : List Lexeme) → n ≡ 0 → more_items n part before rest ≡ Some (before, rest)
unfolding more_items
items_full n part before rest h = rw h refl

pub items_err : {A : Type 0} (e : Fault) (limit i : ℕ) (part : Reader A) (before : List A) (rest : List Lexeme) (x : Front) (total : Option (List A × List Lexeme)) →
    i < limit → Some x ≡ front T.Comma rest → IsFaultOf e (part x.1) → more_items (limit - i) part before rest ≡ total → IsFaultOf e total
unfolding more_items
items_err NoMemory limit i part before rest x total lt h f so_far = tt
items_err NoParse limit i part before rest x total lt h f so_far =
    let s : limit - i ≡ suc (limit - (i + 1)) = omega arith in
    let one : more_items (limit - i) part before rest ≡ None = rw (s, ← h, f) refl in
    sym so_far ∙ one

pub items_next : {A : Type 0} (limit i : ℕ) (part : Reader A) (before : List A) (rest : List Lexeme) (x : Front) (y : A × List Lexeme) (total : Option (List A × List Lexeme)) →
    i < limit → Some x ≡ front T.Comma rest → part x.1 ≡ Some y → more_items (limit - i) part before rest ≡ total →
    more_items (limit - (i + 1)) part (before ++ y.0 ∷ []) y.1 ≡ total
unfolding more_items
items_next limit i part before rest x y total lt h f so_far =
    let s : limit - i ≡ suc (limit - (i + 1)) = omega arith in
    let one : more_items (limit - i) part before rest ≡ more_items (limit - (i + 1)) part (before ++ y.0 ∷ []) y.1 = rw (s, ← h, f) refl in
    sym one ∙ so_far
