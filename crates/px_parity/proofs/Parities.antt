-- Parities of rows.
use Rattle.std.proofs.Common.{◌≡◌, ℕ, zero, suc, ◌<◌, List, [], ◌∷◌, length, set, Bool, true, false, not, refl, sym, ap, ap₂, ◌∙◌, arith}
use Rattle.px_parity.specs.Bits.{bit_of, plus, times, parity}

-- ---- bits

pub plus_same : (b : Bool) → plus b b ≡ false
plus_same false = refl
plus_same true = refl

pub plus_false : (b : Bool) → plus b false ≡ b
plus_false false = refl
plus_false true = refl

plus_groups : (a b c : Bool) → plus a (plus b c) ≡ plus (plus a b) c
plus_groups false b c = refl
plus_groups true false c = refl
plus_groups true true false = refl
plus_groups true true true = refl

turned_value : (b c p : Bool) → plus (times (not b) c) p ≡ plus (plus (times b c) p) c
turned_value false false p = sym (plus_false p)
turned_value false true false = refl
turned_value false true true = refl
turned_value true false p = sym (plus_false p)
turned_value true true false = refl
turned_value true true true = refl

turned_weight : (b c p : Bool) → plus (times b (not c)) p ≡ plus (plus (times b c) p) b
turned_weight false c p = sym (plus_false p)
turned_weight true false false = refl
turned_weight true false true = refl
turned_weight true true false = refl
turned_weight true true true = refl

sum_value : (a b c p q : Bool) → plus (times (plus a b) c) (plus p q) ≡ plus (plus (times a c) p) (plus (times b c) q)
sum_value false false c p q = refl
sum_value false true false p q = refl
sum_value false true true false q = refl
sum_value false true true true false = refl
sum_value false true true true true = refl
sum_value true false false p q = refl
sum_value true false true false q = refl
sum_value true false true true false = refl
sum_value true false true true true = refl
sum_value true true false p q = refl
sum_value true true true false false = refl
sum_value true true true false true = refl
sum_value true true true true false = refl
sum_value true true true true true = refl

-- ---- rows

-- one bit turned round
pub flipped_parity : (w : ℕ → Bool) (bs : List Bool) (i : ℕ) → i < length bs → parity w (set bs i (not (bit_of bs i))) ≡ plus (parity w bs) (w i)
flipped_parity w [] i l = absurd (omega arith)
flipped_parity w (b ∷ bs) zero l = turned_value b (w 0) (parity (λ k. w (suc k)) bs)
flipped_parity w (b ∷ bs) (suc i) l =
    ap (plus (times b (w 0))) (flipped_parity (λ k. w (suc k)) bs i (omega arith))
    ∙ plus_groups (times b (w 0)) (parity (λ k. w (suc k)) bs) (w (suc i))

pub no_parity : (w : ℕ → Bool) (bs : List Bool) → ((k : ℕ) → bit_of bs k ≡ false) → parity w bs ≡ false
no_parity w [] h = refl
no_parity w (b ∷ bs) h = ap₂ (λ c p. plus (times c (w 0)) p) (h 0) (no_parity (λ k. w (suc k)) bs (λ k. h (suc k)))

-- rows of the same bits
same_bits : (w : ℕ → Bool) (xs ys : List Bool) → ((k : ℕ) → bit_of xs k ≡ bit_of ys k) → parity w xs ≡ parity w ys
same_bits w [] ys h = sym (no_parity w ys (λ k. sym (h k)))
same_bits w (x ∷ xs) [] h = no_parity w (x ∷ xs) h
same_bits w (x ∷ xs) (y ∷ ys) h = ap₂ (λ b p. plus (times b (w 0)) p) (h 0) (same_bits (λ k. w (suc k)) xs ys (λ k. h (suc k)))

-- rows added, whatever their lengths
pub sum_parity : (w : ℕ → Bool) (xs ys zs : List Bool) → ((k : ℕ) → bit_of zs k ≡ plus (bit_of xs k) (bit_of ys k)) → parity w zs ≡ plus (parity w xs) (parity w ys)
sum_parity w [] ys zs h = same_bits w zs ys h
sum_parity w (x ∷ xs) [] zs h = same_bits w zs (x ∷ xs) (λ k. h k ∙ plus_false (bit_of (x ∷ xs) k)) ∙ sym (plus_false (parity w (x ∷ xs)))
sum_parity w (x ∷ xs) (y ∷ ys) [] h =
    ap₂ (λ b p. plus (times b (w 0)) p) (h 0) (sum_parity (λ k. w (suc k)) xs ys [] (λ k. h (suc k)))
    ∙ sum_value x y (w 0) (parity (λ k. w (suc k)) xs) (parity (λ k. w (suc k)) ys)
sum_parity w (x ∷ xs) (y ∷ ys) (z ∷ zs) h =
    ap₂ (λ b p. plus (times b (w 0)) p) (h 0) (sum_parity (λ k. w (suc k)) xs ys zs (λ k. h (suc k)))
    ∙ sum_value x y (w 0) (parity (λ k. w (suc k)) xs) (parity (λ k. w (suc k)) ys)

-- no bit but the bit 0
pub first_parity : (w : ℕ → Bool) (bs : List Bool) → ((k : ℕ) → 0 < k → bit_of bs k ≡ false) → w 0 ≡ true → parity w bs ≡ bit_of bs 0
first_parity w [] h e = refl
first_parity w (b ∷ bs) h e =
    ap₂ (λ c p. plus (times b c) p) e (no_parity (λ k. w (suc k)) bs (λ k. h (suc k) (omega arith)))
    ∙ alone b
  where
    alone : (b : Bool) → plus (times b true) false ≡ b
    alone false = refl
    alone true = refl

pub same_parity : (w u : ℕ → Bool) (bs : List Bool) → ((k : ℕ) → w k ≡ u k) → parity w bs ≡ parity u bs
same_parity w u [] h = refl
same_parity w u (b ∷ bs) h = ap₂ (λ c p. plus (times b c) p) (h 0) (same_parity (λ k. w (suc k)) (λ k. u (suc k)) bs (λ k. h (suc k)))

-- the value at i turned round
abbrev pub turned : (ℕ → Bool) → ℕ → ℕ → Bool
turned w zero zero = not (w 0)
turned w zero (suc k) = w (suc k)
turned w (suc i) zero = w 0
turned w (suc i) (suc k) = turned (λ j. w (suc j)) i k

pub turned_parity : (w : ℕ → Bool) (i : ℕ) (bs : List Bool) → parity (turned w i) bs ≡ plus (parity w bs) (bit_of bs i)
turned_parity w i [] = refl
turned_parity w zero (b ∷ bs) = turned_weight b (w 0) (parity (λ k. w (suc k)) bs)
turned_parity w (suc i) (b ∷ bs) =
    ap (plus (times b (w 0))) (turned_parity (λ k. w (suc k)) i bs)
    ∙ plus_groups (times b (w 0)) (parity (λ k. w (suc k)) bs) (bit_of bs i)

pub turned_first : (w : ℕ → Bool) (i : ℕ) → 0 < i → turned w i 0 ≡ w 0
turned_first w zero l = absurd (omega arith)
turned_first w (suc i) l = refl
