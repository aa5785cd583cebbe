-- Sums and differences of polynomials.
use Rattle.std.proofs.Common.{◌≡◌, ◌<◌, ◌+◌, ◌-◌, ◌*◌, ◌%◌, ◌^◌, ◌++◌, ℕ, List, [], ◌∷◌, map, refl, ap, ap₂, sym, subst, ◌∙◌, arith}
use Rattle.std.specs.Prelude.{cond, Bool, true, false}
use Rattle.std.specs.Ordering.{is_eq}
use Rattle.std.proofs.lemmas.List.{map-append}
use Rattle.px_terms.specs.Words.{word_sum, word_difference}
use Rattle.px_terms.specs.Terms.{Term, key_cmp, ordered, IsNormal, IsRising, coefficient_at, value_at, product_at, gathered}
use Rattle.px_terms.specs.Polynomials.{Polynomial, IsPolynomial, terms_of, normal_form, negated, sum_of, difference_of, value_of}
use Rattle.px_terms.specs.Rows.{row_of, scalar_of}
use Rattle.px_terms.proofs.Gathering.{sum_both, sum_right, chosen_wrapped, wrapped_twice, wrapped_below, coefficient_append, value_append, gathered_coefficient}
use Rattle.px_terms.proofs.NormalForm.{AllHave, IsKey, have_append, keys_from, gathered_normal, known_by_coefficients, terms_ordered, form_value}
use Rattle.px_terms.proofs.Products.{scaled_coefficient, row_keys}

shared : (b : Bool) (c d u p q : ℕ) → cond b (c + u * d) 0 + (p + u * q) ≡ (cond b c 0 + p) + u * (cond b d 0 + q)
shared true c d u p q = grind arith
shared false c d u p q = grind arith

module _ (p q : Polynomial) (u : ℕ) (np : IsPolynomial p) (nq : IsPolynomial q) where
  -- the monomials of the first and a word times those of the second
  pub merged_keys : AllHave IsKey (p.monomials ++ row_of (scalar_of u) q.monomials)
  merged_keys = have_append IsKey p.monomials (row_of (scalar_of u) q.monomials) (keys_from p.monomials np.monomials)
      (row_keys (scalar_of u) q.monomials (keys_from q.monomials nq.monomials))

  pub merged_normal : IsNormal (gathered (p.monomials ++ row_of (scalar_of u) q.monomials))
  merged_normal = gathered_normal (p.monomials ++ row_of (scalar_of u) q.monomials) merged_keys

  merged_coefficient : (k : List ℕ) → coefficient_at k (gathered (p.monomials ++ row_of (scalar_of u) q.monomials)) % 2 ^ 32
      ≡ (coefficient_at k p.monomials + u * coefficient_at k q.monomials) % 2 ^ 32
  merged_coefficient k =
      gathered_coefficient (p.monomials ++ row_of (scalar_of u) q.monomials) k
      ∙ ap (λ z. z % 2 ^ 32) (coefficient_append k p.monomials (row_of (scalar_of u) q.monomials))
      ∙ sum_both (coefficient_at k p.monomials) (coefficient_at k p.monomials) (coefficient_at k (row_of (scalar_of u) q.monomials)) (u * coefficient_at k q.monomials) refl
      (scaled_coefficient u q.monomials k)

  -- a polynomial and a word times another, where some terms have the coefficients of the latter
  pub merged_form : (us : List Term) → ((k : List ℕ) → coefficient_at k (map ordered us) % 2 ^ 32 ≡ (u * coefficient_at k (terms_of q)) % 2 ^ 32)
      → (c : ℕ) → c ≡ (p.constant + u * q.constant) % 2 ^ 32 → (ms : List Term) → ms ≡ gathered (p.monomials ++ row_of (scalar_of u) q.monomials)
      → record { constant = c; monomials = ms } ≡ normal_form (terms_of p ++ us)
  merged_form us h c e ms f =
      let x = p.constant + u * q.constant in
      let r : Polynomial = record { constant = c; monomials = ms } in
      known_by_coefficients r (terms_of p ++ us)
      (record { constant = subst (λ z. z < 2 ^ 32) (sym e) (wrapped_below x); monomials = subst IsNormal (sym f) merged_normal })
      (λ k. ap₂ (λ (z : ℕ) (zs : List Term). (cond (is_eq (key_cmp k [])) z 0 + coefficient_at k zs) % 2 ^ 32) e f
      ∙ chosen_wrapped (is_eq (key_cmp k [])) x (coefficient_at k (gathered (p.monomials ++ row_of (scalar_of u) q.monomials)))
      ∙ sum_right (coefficient_at k (gathered (p.monomials ++ row_of (scalar_of u) q.monomials))) (coefficient_at k p.monomials + u * coefficient_at k q.monomials)
      (cond (is_eq (key_cmp k [])) x 0) (merged_coefficient k)
      ∙ ap (λ z. z % 2 ^ 32) (shared (is_eq (key_cmp k [])) p.constant q.constant u (coefficient_at k p.monomials) (coefficient_at k q.monomials))
      ∙ sum_both (coefficient_at k (terms_of p)) (coefficient_at k (map ordered (terms_of p))) (u * coefficient_at k (terms_of q)) (coefficient_at k (map ordered us))
      (ap (λ zs. coefficient_at k zs % 2 ^ 32) (sym (terms_ordered p np))) (sym (h k))
      ∙ ap (λ z. z % 2 ^ 32) (sym (coefficient_append k (map ordered (terms_of p)) (map ordered us)))
      ∙ ap (λ zs. coefficient_at k zs % 2 ^ 32) (sym (map-append ordered (terms_of p) us)))

-- ---- sums

one_time : (a : ℕ) → a % 2 ^ 32 ≡ (1 * a) % 2 ^ 32
one_time a = omega arith

pub sum_form : (p q : Polynomial) → IsPolynomial p → IsPolynomial q → (c : ℕ) → c ≡ (p.constant + q.constant) % 2 ^ 32
    → (ms : List Term) → ms ≡ gathered (p.monomials ++ row_of (scalar_of 1) q.monomials) → record { constant = c; monomials = ms } ≡ sum_of p q
sum_form p q np nq c e ms f =
    merged_form p q 1 np nq (terms_of q)
    (λ k. ap (λ zs. coefficient_at k zs % 2 ^ 32) (terms_ordered q nq) ∙ one_time (coefficient_at k (terms_of q)))
    c (omega arith) ms f

pub terms_value : (v : ℕ → ℕ) (p : Polynomial) → value_at v (terms_of p) % 2 ^ 32 ≡ value_of v p
terms_value v p = ap (λ z. (z + value_at v p.monomials) % 2 ^ 32) (single p.constant)
  where
    single : (c : ℕ) → c * 1 ≡ c
    single c = omega arith

pub sum_value : (p q : Polynomial) (v : ℕ → ℕ) → value_of v (sum_of p q) ≡ word_sum (value_of v p) (value_of v q)
sum_value p q v =
    form_value (terms_of p ++ terms_of q) v
    ∙ ap (λ z. z % 2 ^ 32) (value_append v (terms_of p) (terms_of q))
    ∙ sum_both (value_at v (terms_of p)) (value_of v p) (value_at v (terms_of q)) (value_of v q)
    (sym (wrapped_twice (value_at v (terms_of p))) ∙ ap (λ z. z % 2 ^ 32) (terms_value v p))
    (sym (wrapped_twice (value_at v (terms_of q))) ∙ ap (λ z. z % 2 ^ 32) (terms_value v q))

-- ---- differences

-- the coefficients are words
abbrev WordsOnly : List Term → Type 0
WordsOnly [] = Unit {0}
WordsOnly (t ∷ ts) = (t.coefficient < 2 ^ 32) × WordsOnly ts

rising_words : (ts : List Term) → IsRising ts → WordsOnly ts
rising_words [] r = tt
rising_words (t ∷ ts) r = (r.1, rising_words ts r.3)

terms_words : (p : Polynomial) → IsPolynomial p → WordsOnly (terms_of p)
terms_words p n = (n.constant, rising_words p.monomials n.monomials.rising)

chosen_negated : (b : Bool) (c r s : ℕ) → c < 2 ^ 32 → r % 2 ^ 32 ≡ ((2 ^ 32 - 1) * s) % 2 ^ 32 → (cond b (2 ^ 32 - c) 0 + r) % 2 ^ 32 ≡ ((2 ^ 32 - 1) * (cond b c 0 + s)) % 2 ^ 32
chosen_negated true c r s h e = omega arith
chosen_negated false c r s h e = omega arith

negated_coefficient : (ts : List Term) (k : List ℕ) → WordsOnly ts → coefficient_at k (map negated ts) % 2 ^ 32 ≡ ((2 ^ 32 - 1) * coefficient_at k ts) % 2 ^ 32
negated_coefficient [] k h = refl
negated_coefficient (t ∷ ts) k h =
    chosen_negated (is_eq (key_cmp k t.vars)) t.coefficient (coefficient_at k (map negated ts)) (coefficient_at k ts) h.0 (negated_coefficient ts k h.1)

negated_ordered : (ts : List Term) → map ordered (map negated ts) ≡ map negated (map ordered ts)
negated_ordered [] = refl
negated_ordered (t ∷ ts) = ap (λ zs. negated (ordered t) ∷ zs) (negated_ordered ts)

pub difference_form : (p q : Polynomial) → IsPolynomial p → IsPolynomial q → (c : ℕ) → c ≡ (p.constant + (2 ^ 32 - q.constant)) % 2 ^ 32
    → (ms : List Term) → ms ≡ gathered (p.monomials ++ row_of (scalar_of (2 ^ 32 - 1)) q.monomials) → record { constant = c; monomials = ms } ≡ difference_of p q
difference_form p q np nq c e ms f =
    merged_form p q (2 ^ 32 - 1) np nq (map negated (terms_of q))
    (λ k. ap (λ zs. coefficient_at k zs % 2 ^ 32) (negated_ordered (terms_of q) ∙ ap (map negated) (terms_ordered q nq))
    ∙ negated_coefficient (terms_of q) k (terms_words q nq))
    c (let h = nq.constant in omega arith) ms f

negated_step : (c x s t : ℕ) → c < 2 ^ 32 → (s + t) % 2 ^ 32 ≡ 0 → (((2 ^ 32 - c) * x + s) + (c * x + t)) % 2 ^ 32 ≡ 0
negated_step c x s t h e =
    let d : (2 ^ 32 - c) * x + c * x ≡ 2 ^ 32 * x = joined (2 ^ 32 - c) c x (2 ^ 32) (omega arith) in
    omega arith
  where
    joined : (a c x m : ℕ) → a + c ≡ m → a * x + c * x ≡ m * x
    joined a c x m h = regrouped a c x ∙ ap (λ z. z * x) h
      where
        regrouped : (a c x : ℕ) → a * x + c * x ≡ (a + c) * x
        regrouped a c x = grind arith

negated_value : (v : ℕ → ℕ) (ts : List Term) → WordsOnly ts → (value_at v (map negated ts) + value_at v ts) % 2 ^ 32 ≡ 0
negated_value v [] h = refl
negated_value v (t ∷ ts) h = negated_step t.coefficient (product_at v t.vars) (value_at v (map negated ts)) (value_at v ts) h.0 (negated_value v ts h.1)

pub difference_value : (p q : Polynomial) → IsPolynomial q → (v : ℕ → ℕ) → value_of v (difference_of p q) ≡ word_difference (value_of v p) (value_of v q)
difference_value p q nq v =
    form_value (terms_of p ++ map negated (terms_of q)) v
    ∙ ap (λ z. z % 2 ^ 32) (value_append v (terms_of p) (map negated (terms_of q)))
    ∙ turned (value_at v (terms_of p)) (value_at v (map negated (terms_of q))) (value_at v (terms_of q)) (value_of v p) (value_of v q)
    (terms_value v p) (terms_value v q) (negated_value v (terms_of q) (terms_words q nq))
  where
    turned : (a n b x y : ℕ) → a % 2 ^ 32 ≡ x → b % 2 ^ 32 ≡ y → (n + b) % 2 ^ 32 ≡ 0 → (a + n) % 2 ^ 32 ≡ (x + (2 ^ 32 - y)) % 2 ^ 32
    turned a n b x y e f g = omega arith
