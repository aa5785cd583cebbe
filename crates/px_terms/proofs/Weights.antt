-- Sums over terms in which each coefficient counts with a number that its variables have. Gathering
-- keeps them modulo 2^32, and so does the normal form where the order of the variables doesn't count.
use Rattle.std.proofs.Common.{◌≡◌, ◌+◌, ◌*◌, ◌%◌, ◌^◌, ◌++◌, ℕ, List, [], ◌∷◌, map, refl, ap, sym, ◌∙◌, arith}
use Rattle.std.specs.Prelude.{cond, Bool, true, false, fold}
use Rattle.std.specs.declared.cmp.Ordering.{Ordering}
use Rattle.std.specs.declared.cmp.Ordering.TheVariants.{Less, Equal, Greater}
use Rattle.std.specs.Ordering.{is_eq}
use Rattle.std.proofs.lemmas.Nat.{mul-mod_first}
use Rattle.std.proofs.lemmas.List.{map-append}
use Rattle.std.proofs.lemmas.List.Sums.{fold-append}
use Rattle.px_terms.specs.Terms.{Term, key_cmp, in_order, put_among, ordered, coefficient_at, put_term, place_term, add_term, gathered}
use Rattle.px_terms.specs.Polynomials.{terms_of, has_variables, with_variables, normal_form, term_product, pairs}
use Rattle.px_terms.proofs.InOrder.{fold_ordered, in_order_same}
use Rattle.px_terms.proofs.KeyOrder.{key_equal}
use Rattle.px_terms.proofs.Gathering.{sum_left, sum_right, sum_both, by_zero, coefficient_append}
use Rattle.px_terms.proofs.NormalForm.{none_first, in_order_kept}

abbrev pub weight : (List ℕ → ℕ) → List Term → ℕ
weight g [] = 0
weight g (t ∷ ts) = t.coefficient * g t.vars + weight g ts

product_zero : (c p s : ℕ) → c % 2 ^ 32 ≡ 0 → s % 2 ^ 32 ≡ (c * p + s) % 2 ^ 32
product_zero c p s h =
    let e : (c * p) % 2 ^ 32 ≡ 0 = sym (mul-mod_first c p (2 ^ 32)) ∙ ap (λ x. (x * p) % 2 ^ 32) h ∙ nothing p in
    omega arith
  where
    nothing : (p : ℕ) → (0 * p) % 2 ^ 32 ≡ 0
    nothing p = grind arith

module _ (g : List ℕ → ℕ) where
  put_weight : (c : ℕ) (m : List ℕ) (ts : List Term) → weight g (put_term c m ts) % 2 ^ 32 ≡ (c * g m + weight g ts) % 2 ^ 32
  put_weight c m ts = by_zero (λ us. weight g us % 2 ^ 32 ≡ (c * g m + weight g ts) % 2 ^ 32) c m ts
      (λ z. product_zero c (g m) (weight g ts) z)
      (λ n. sum_left (c % 2 ^ 32 * g m) (c * g m) (weight g ts) (mul-mod_first c (g m) (2 ^ 32)))

  place_weight : (o : Ordering) (t s : Term) (ss later : List Term) → key_cmp t.vars s.vars ≡ o → weight g later % 2 ^ 32 ≡ weight g (t ∷ ss) % 2 ^ 32
      → weight g (place_term o t s ss later) % 2 ^ 32 ≡ weight g (t ∷ s ∷ ss) % 2 ^ 32
  place_weight Less t s ss later e h = put_weight t.coefficient t.vars (s ∷ ss)
  place_weight Equal t s ss later e h =
      put_weight (t.coefficient + s.coefficient) s.vars ss
      ∙ ap (λ x. x % 2 ^ 32) (shared t.coefficient s.coefficient (g s.vars) (weight g ss)
      ∙ ap (λ m. t.coefficient * g m + weight g (s ∷ ss)) (sym (key_equal t.vars s.vars e)))
    where
      shared : (a b p r : ℕ) → (a + b) * p + r ≡ a * p + (b * p + r)
      shared a b p r = grind arith
  place_weight Greater t s ss later e h = moved (s.coefficient * g s.vars) (weight g later) (t.coefficient * g t.vars) (weight g ss) h
    where
      moved : (a l t r : ℕ) → l % 2 ^ 32 ≡ (t + r) % 2 ^ 32 → (a + l) % 2 ^ 32 ≡ (t + (a + r)) % 2 ^ 32
      moved a l t r h = omega arith

  add_weight : (t : Term) (ts : List Term) → weight g (add_term t ts) % 2 ^ 32 ≡ weight g (t ∷ ts) % 2 ^ 32
  add_weight t [] = put_weight t.coefficient t.vars []
  add_weight t (s ∷ ss) = place_weight (key_cmp t.vars s.vars) t s ss (add_term t ss) refl (add_weight t ss)

  gathered_weight : (ts : List Term) → weight g (gathered ts) % 2 ^ 32 ≡ weight g ts % 2 ^ 32
  gathered_weight [] = refl
  gathered_weight (t ∷ ts) = add_weight t (gathered ts) ∙ sum_right (weight g (gathered ts)) (weight g ts) (t.coefficient * g t.vars) (gathered_weight ts)

  module _ (same : (k : List ℕ) → g (in_order k) ≡ g k) where
    kept_weight : (ts : List Term) → coefficient_at [] ts * g [] + weight g (with_variables (map ordered ts)) ≡ weight g ts
    kept_weight [] = nothing (g [])
      where
        nothing : (a : ℕ) → 0 * a + 0 ≡ 0
        nothing a = grind arith
    kept_weight (t ∷ ts) = one t.coefficient t.vars (kept_weight ts)
      where
        constant : (c a p b w : ℕ) → a * p + b ≡ w → (c + a) * p + b ≡ c * p + w
        constant c a p b w h = shared c a p b ∙ ap (λ z. c * p + z) h
          where
            shared : (c a p b : ℕ) → (c + a) * p + b ≡ c * p + (a * p + b)
            shared c a p b = grind arith

        other : (m a p b w : ℕ) → a * p + b ≡ w → (0 + a) * p + (m + b) ≡ m + w
        other m a p b w h = shared m a p b ∙ ap (λ z. m + z) h
          where
            shared : (m a p b : ℕ) → (0 + a) * p + (m + b) ≡ m + (a * p + b)
            shared m a p b = grind arith

        one : (c : ℕ) (k : List ℕ) → coefficient_at [] ts * g [] + weight g (with_variables (map ordered ts)) ≡ weight g ts
            → (cond (is_eq (key_cmp [] k)) c 0 + coefficient_at [] ts) * g [] + weight g (cond (has_variables (in_order k)) (record { coefficient = c; vars = in_order k } ∷ with_variables (map ordered ts)) (with_variables (map ordered ts)))
            ≡ c * g k + weight g ts
        one c [] h = constant c (coefficient_at [] ts) (g []) (weight g (with_variables (map ordered ts))) (weight g ts) h
        one c (x ∷ xs) h =
            rw (none_first x xs, in_order_kept x xs, same (x ∷ xs))
            (other (c * g (x ∷ xs)) (coefficient_at [] ts) (g []) (weight g (with_variables (map ordered ts))) (weight g ts) h)

    pub form_weight : (ts : List Term) → weight g (terms_of (normal_form ts)) % 2 ^ 32 ≡ weight g ts % 2 ^ 32
    form_weight ts =
        sum_both (coefficient_at [] ts % 2 ^ 32 * g []) (coefficient_at [] ts * g []) (weight g (gathered (with_variables (map ordered ts)))) (weight g (with_variables (map ordered ts)))
        (mul-mod_first (coefficient_at [] ts) (g []) (2 ^ 32)) (gathered_weight (with_variables (map ordered ts)))
        ∙ ap (λ x. x % 2 ^ 32) (kept_weight ts)

-- ---- products with terms, and with their normal form

-- what a product with this term counts for
abbrev counted : List ℕ → Term → List ℕ → ℕ
counted k a m = cond (is_eq (key_cmp k (in_order (m ++ a.vars)))) a.coefficient 0

in_order_first : (m u : List ℕ) → in_order (in_order m ++ u) ≡ in_order (m ++ u)
in_order_first m u =
    fold-append put_among [] (in_order m) u ∙ ap (λ z. fold put_among z u) (in_order_same (in_order m) (fold_ordered m [] tt)) ∙ sym (fold-append put_among [] m u)

chosen_turned : (b : Bool) (c d r s : ℕ) → r ≡ s → cond b (c * d) 0 + r ≡ d * cond b c 0 + s
chosen_turned true c d r s h = ap (λ z. c * d + z) h ∙ turned c d s
  where
    turned : (c d s : ℕ) → c * d + s ≡ d * c + s
    turned c d s = grind arith
chosen_turned false c d r s h = ap (λ z. 0 + z) h ∙ nothing d s
  where
    nothing : (d s : ℕ) → 0 + s ≡ d * 0 + s
    nothing d s = grind arith

row_counted : (k : List ℕ) (a : Term) (ts : List Term) → coefficient_at k (map ordered (map (term_product a) ts)) ≡ weight (counted k a) ts
row_counted k a [] = refl
row_counted k a (t ∷ ts) =
    chosen_turned (is_eq (key_cmp k (in_order (t.vars ++ a.vars)))) a.coefficient t.coefficient (coefficient_at k (map ordered (map (term_product a) ts))) (weight (counted k a) ts) (row_counted k a ts)

row_form : (k : List ℕ) (a : Term) (ts : List Term)
    → coefficient_at k (map ordered (map (term_product a) (terms_of (normal_form ts)))) % 2 ^ 32 ≡ coefficient_at k (map ordered (map (term_product a) ts)) % 2 ^ 32
row_form k a ts =
    ap (λ z. z % 2 ^ 32) (row_counted k a (terms_of (normal_form ts)))
    ∙ form_weight (counted k a) (λ m. ap (λ (z : List ℕ). cond (is_eq (key_cmp k z)) a.coefficient 0) (in_order_first m a.vars)) ts
    ∙ ap (λ z. z % 2 ^ 32) (sym (row_counted k a ts))

-- products with the normal form of terms have the coefficients of products with the terms
pub pairs_form : (k : List ℕ) (ss ts : List Term)
    → coefficient_at k (map ordered (pairs ss (terms_of (normal_form ts)))) % 2 ^ 32 ≡ coefficient_at k (map ordered (pairs ss ts)) % 2 ^ 32
pairs_form k [] ts = refl
pairs_form k (s ∷ ss) ts =
    let q = terms_of (normal_form ts) in
    ap (λ zs. coefficient_at k zs % 2 ^ 32) (map-append ordered (map (term_product s) q) (pairs ss q))
    ∙ ap (λ z. z % 2 ^ 32) (coefficient_append k (map ordered (map (term_product s) q)) (map ordered (pairs ss q)))
    ∙ sum_both (coefficient_at k (map ordered (map (term_product s) q))) (coefficient_at k (map ordered (map (term_product s) ts))) (coefficient_at k (map ordered (pairs ss q))) (coefficient_at k (map ordered (pairs ss ts)))
    (row_form k s ts) (pairs_form k ss ts)
    ∙ ap (λ z. z % 2 ^ 32) (sym (coefficient_append k (map ordered (map (term_product s) ts)) (map ordered (pairs ss ts))))
    ∙ ap (λ zs. coefficient_at k zs % 2 ^ 32) (sym (map-append ordered (map (term_product s) ts) (pairs ss ts)))
