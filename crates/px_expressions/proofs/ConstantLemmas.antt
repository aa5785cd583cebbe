-- Decimal numbers.
use Rattle.std.proofs.Common.{◌≡◌, ◌<◌, ◌≤◌, ◌+◌, ◌*◌, ◌-◌, ℕ, suc, List, [], ◌∷◌, length, drop, get_or, drop-cons, None, ltb, false, refl, sym, ◌∙◌, arith}
use Rattle.px_expressions.specs.Reading.{decimal_from, constant_value}

decimal_grows : (n : ℕ) (bs : List ℕ) → n ≤ decimal_from n bs
decimal_grows n [] = omega arith
decimal_grows n (b ∷ bs) =
    let h : n * 10 + (b - 48) ≤ decimal_from (n * 10 + (b - 48)) bs = decimal_grows (n * 10 + (b - 48)) bs in
    omega arith

-- what is too large at a digit stays so
pub too_large : (n : ℕ) (bs text : List ℕ) → 2147483647 < n → decimal_from n bs ≡ decimal_from 0 text → constant_value text ≡ None
too_large n bs text lt e =
    let h : n ≤ decimal_from n bs = decimal_grows n bs in
    let z : ltb (decimal_from 0 text) 2147483648 ≡ false = grind (arith, h, lt, e) in
    rw z refl

-- the same where the digit at a place has made it too large
pub too_large_at : (v i r : ℕ) (text : List ℕ) → i < length text → r ≡ get_or text i 0 - 48 → 2147483647 < v * 10 + r →
    decimal_from v (drop i text) ≡ decimal_from 0 text → None ≡ constant_value text
too_large_at v i r text h d lt e =
    let step : decimal_from v (drop i text) ≡ decimal_from (v * 10 + (get_or text i 0 - 48)) (drop (suc i) text) = rw (drop-cons text i 0) refl in
    let same : decimal_from (v * 10 + r) (drop (suc i) text) ≡ decimal_from 0 text = rw d (sym step ∙ e) in
    sym (too_large (v * 10 + r) (drop (suc i) text) text lt same)
