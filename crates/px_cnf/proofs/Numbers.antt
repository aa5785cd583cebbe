-- Numbers by their bits.
use Rattle.std.proofs.Common.{◌≡◌, ℕ, ◌+◌, ◌*◌, ◌^◌, ◌%◌, ◌/◌, ◌<◌, ◌≤◌, List, [], ◌∷◌, ◌++◌, length, take, drop, sym, ap, subst, ◌∙◌, arith, length-take}
use Rattle.std.specs.Prelude.{Bool, true, false}
use Rattle.std.proofs.Math.Nat.{pow-suc, div-add-mod, mod-add-mod, add-mod-mod}
use Rattle.std.proofs.lemmas.Nat.{pow_pos, mod_low, mod_below, mul-mod_second}
use Rattle.std.proofs.lemmas.List.{take-append-drop}
use Rattle.px_cnf.specs.declared.literal.Literal.{Literal}
use Rattle.px_cnf.specs.Clauses.{Assignment, holds}
use Rattle.px_cnf.specs.Words.{bit, number}

pub bit_small : (b : Bool) → bit b < 2
bit_small true = omega arith
bit_small false = omega arith

pub number-below : (a : Assignment) (ls : List Literal) → number a ls < 2 ^ length ls
number-below a [] = omega arith
number-below a (l ∷ ls) = rw pow-suc (omega (arith, bit_small (holds a l), number-below a ls))

grow_number : (b n p c : ℕ) → b + 2 * (n + p * c) ≡ (b + 2 * n) + (p * 2) * c
grow_number b n p c = grind arith

pub number-append : (a : Assignment) (xs ys : List Literal) → number a (xs ++ ys) ≡ number a xs + 2 ^ length xs * number a ys
number-append a [] ys = omega arith
number-append a (x ∷ xs) ys =
    ap (λ n. bit (holds a x) + 2 * n) (number-append a xs ys)
    ∙ grow_number (bit (holds a x)) (number a xs) (2 ^ length xs) (number a ys)
    ∙ ap (λ p. (bit (holds a x) + 2 * number a xs) + p * number a ys) (sym (pow-suc 2 (length xs)))

pub number-push : (a : Assignment) (xs : List Literal) (l : Literal) → number a (xs ++ l ∷ []) ≡ number a xs + 2 ^ length xs * bit (holds a l)
number-push a xs l = number-append a xs (l ∷ []) ∙ ap (λ n. number a xs + 2 ^ length xs * n) (omega arith)

-- the first bits are a rest of the number
pub number-take : (a : Assignment) (n : ℕ) (ls : List Literal) → n ≤ length ls → number a (take n ls) ≡ number a ls % 2 ^ n
number-take a n ls h =
    let size : length (take n ls) ≡ n = length-take n ls ∙ omega arith in
    let low : number a (take n ls) < 2 ^ n = subst (λ m. number a (take n ls) < 2 ^ m) size (number-below a (take n ls)) in
    let whole : number a ls ≡ number a (drop n ls) * 2 ^ n + number a (take n ls) =
    ap (number a) (sym (take-append-drop n ls)) ∙ number-append a (take n ls) (drop n ls)
    ∙ ap (λ m. number a (take n ls) + 2 ^ m * number a (drop n ls)) size ∙ swap (number a (take n ls)) (2 ^ n) (number a (drop n ls)) in
    sym (ap (λ m. m % 2 ^ n) whole ∙ mod_low (number a (drop n ls)) n (number a (take n ls)) low)
  where
    swap : (t p d : ℕ) → t + p * d ≡ d * p + t
    swap t p d = grind arith

-- ---- sums

-- one more bit of a sum
pub sum_more : (s c x y k b d p q r : ℕ) → s + r * c ≡ x + y + k → b + 2 * d ≡ p + q + c → (s + r * b) + (r * 2) * d ≡ (x + r * p) + (y + r * q) + k
sum_more s c x y k b d p q r h e =
    let f : r * (b + 2 * d) ≡ r * (p + q + c) = ap (λ n. r * n) e in
    grind (arith, h, f)

-- what is left of a sum with its carry is the sum, wrapped
pub sum_whole : (s c m n : ℕ) → s < 2 ^ n → s + 2 ^ n * c ≡ m → s ≡ m % 2 ^ n
sum_whole s c m n l e = sym (ap (λ z. z % 2 ^ n) (sym e ∙ swap s (2 ^ n) c) ∙ mod_low c n s l)
  where
    swap : (t p d : ℕ) → t + p * d ≡ d * p + t
    swap t p d = grind arith

-- ---- products

pub two_more : (n : ℕ) → 2 ^ (n + 1) ≡ 2 ^ n * 2
two_more n = ap (λ k. 2 ^ k) (omega arith) ∙ pow-suc 2 n

split_rest : (b t p r q : ℕ) → p * q + r ≡ t → b + 2 * r + p * 2 * q ≡ b + 2 * t
split_rest b t p r q e = grind (arith, e)

-- a bit below a rest
pub rest_above : (b t n : ℕ) → b < 2 → b + 2 * (t % 2 ^ n) ≡ (b + 2 * t) % 2 ^ (n + 1)
rest_above b t n l =
    sum_whole (b + 2 * (t % 2 ^ n)) (t / 2 ^ n) (b + 2 * t) (n + 1)
    (rw two_more (let p = mod_below t (2 ^ n) (pow_pos n) in omega arith))
    (rw two_more (split_rest b t (2 ^ n) (t % 2 ^ n) (t / 2 ^ n) (div-add-mod t (2 ^ n))))

-- twice a rest
double_rest : (t n : ℕ) → 2 * (t % 2 ^ n) ≡ (2 * t) % 2 ^ (n + 1)
double_rest t n = ap (λ z. z) (omega arith) ∙ rest_above 0 t n (omega arith) ∙ ap (λ z. z % 2 ^ (n + 1)) (omega arith)

sum_rests : (s t u v m : ℕ) → s ≡ u % m → t % m ≡ v % m → (s + t) % m ≡ (u + v) % m
sum_rests s t u v m e f =
    ap (λ z. (z + t) % m) e ∙ mod-add-mod u m t ∙ sym (add-mod-mod u t m) ∙ ap (λ z. (u + z) % m) f ∙ add-mod-mod u v m

regroup : (b x y : ℕ) → 2 * (x * y) + b * y ≡ (b + 2 * x) * y
regroup b x y = grind arith

-- twice a product that is wrapped, and one row more
pub product_more : (b x y n : ℕ) → (2 * ((x * y) % 2 ^ n) + b * (y % 2 ^ (n + 1))) % 2 ^ (n + 1) ≡ ((b + 2 * x) * y) % 2 ^ (n + 1)
product_more b x y n =
    sum_rests (2 * ((x * y) % 2 ^ n)) (b * (y % 2 ^ (n + 1))) (2 * (x * y)) (b * y) (2 ^ (n + 1)) (double_rest (x * y) n) (mul-mod_second b y (2 ^ (n + 1)))
    ∙ ap (λ z. z % 2 ^ (n + 1)) (regroup b x y)

-- the first bit, and the sum of what stands above it
pub doubled : (s r t z n : ℕ) → r < 2 → z ≡ (s + t) % 2 ^ n → r + 2 * z ≡ (2 * s + (r + 2 * t)) % 2 ^ (n + 1)
doubled s r t z n l e =
    ap (λ k. r + 2 * k) e ∙ rest_above r (s + t) n l ∙ ap (λ k. k % 2 ^ (n + 1)) (omega arith)
