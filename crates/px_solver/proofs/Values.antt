-- Words of polynomials, term by term, and what they depend on.
use Rattle.std.proofs.Common.{◌≡◌, ◌<◌, ◌+◌, ◌*◌, ◌%◌, ◌^◌, ℕ, List, [], ◌∷◌, length, get_or, take, refl, ap, sym, ◌∙◌, arith}
use Rattle.std.specs.Prelude.{All, flat_map}
use Rattle.std.proofs.lemmas.List.{take_more}
use Rattle.std.proofs.lemmas.List.Elements.{All-head, All-tail}
use Rattle.std.proofs.lemmas.Nat.{mul-mod, mul-mod_second}
use Rattle.px_terms.specs.Terms.{Term, product_at, value_at}
use Rattle.px_terms.specs.Polynomials.{Polynomial, value_of}
use Rattle.px_terms.specs.Variables.{variables_of}
use Rattle.px_terms.proofs.Evaluation.{All-left, All-right}
use Rattle.px_terms.proofs.PolyProducts.{product-append}

pub product_more : (v : ℕ → ℕ) (xs : List ℕ) (i p w : ℕ) → i < length xs → w ≡ v (get_or xs i 0) % 2 ^ 32 → p ≡ product_at v (take i xs) % 2 ^ 32
    → (p * w) % 2 ^ 32 ≡ product_at v (take (i + 1) xs) % 2 ^ 32
product_more v xs i p w h e f =
    let x = get_or xs i 0 in
    ap (λ z. (z * w) % 2 ^ 32) f
    ∙ ap (λ z. (product_at v (take i xs) % 2 ^ 32 * z) % 2 ^ 32) e
    ∙ sym (mul-mod (product_at v (take i xs)) (v x) (2 ^ 32))
    ∙ ap (λ z. z % 2 ^ 32) (ap (λ z. product_at v (take i xs) * z) (single (v x)) ∙ sym (product-append v (take i xs) (x ∷ [])) ∙ ap (product_at v) (sym (take_more xs i 0 h)))
  where
    single : (a : ℕ) → a ≡ a * 1
    single a = grind arith

-- ---- words that are the same modulo 2^32

abbrev pub Alike : (ℕ → ℕ) → (ℕ → ℕ) → ℕ → Type 0
Alike v w x = v x % 2 ^ 32 ≡ w x % 2 ^ 32

product_alike : (v w : ℕ → ℕ) (xs : List ℕ) → All (Alike v w) xs → product_at v xs % 2 ^ 32 ≡ product_at w xs % 2 ^ 32
product_alike v w [] h = refl
product_alike v w (x ∷ xs) h =
    mul-mod (v x) (product_at v xs) (2 ^ 32)
    ∙ ap (λ z. (z * (product_at v xs % 2 ^ 32)) % 2 ^ 32) (All-head (Alike v w) x xs h)
    ∙ ap (λ z. (w x % 2 ^ 32 * z) % 2 ^ 32) (product_alike v w xs (All-tail (Alike v w) x xs h))
    ∙ sym (mul-mod (w x) (product_at w xs) (2 ^ 32))

sum_alike : (v w : ℕ → ℕ) (ts : List Term) → All (Alike v w) (flat_map (λ (t : Term). t.vars) ts) → value_at v ts % 2 ^ 32 ≡ value_at w ts % 2 ^ 32
sum_alike v w [] h = refl
sum_alike v w (t ∷ ts) h =
    let rest = flat_map (λ (u : Term). u.vars) ts in
    let here = product_alike v w t.vars (All-left (Alike v w) t.vars rest h) in
    let again = sum_alike v w ts (All-right (Alike v w) t.vars rest h) in
    joined (t.coefficient * product_at v t.vars) (t.coefficient * product_at w t.vars) (value_at v ts) (value_at w ts)
    (sym (mul-mod_second t.coefficient (product_at v t.vars) (2 ^ 32)) ∙ ap (λ z. (t.coefficient * z) % 2 ^ 32) here ∙ mul-mod_second t.coefficient (product_at w t.vars) (2 ^ 32)) again
  where
    joined : (a b x y : ℕ) → a % 2 ^ 32 ≡ b % 2 ^ 32 → x % 2 ^ 32 ≡ y % 2 ^ 32 → (a + x) % 2 ^ 32 ≡ (b + y) % 2 ^ 32
    joined a b x y e f = omega arith

pub value_alike : (v w : ℕ → ℕ) (p : Polynomial) → All (Alike v w) (variables_of p) → value_of v p ≡ value_of w p
value_alike v w p h = joined p.constant (value_at v p.monomials) (value_at w p.monomials) (sum_alike v w p.monomials h)
  where
    joined : (c x y : ℕ) → x % 2 ^ 32 ≡ y % 2 ^ 32 → (c + x) % 2 ^ 32 ≡ (c + y) % 2 ^ 32
    joined c x y e = omega arith
