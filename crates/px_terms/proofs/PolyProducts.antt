-- Products of polynomials.
use Rattle.std.proofs.Common.{◌≡◌, ◌<◌, ◌+◌, ◌*◌, ◌%◌, ◌^◌, ◌++◌, ℕ, List, [], ◌∷◌, map, refl, ap, ap₂, sym, subst, ◌∙◌, arith}
use Rattle.std.specs.Prelude.{cond, fold}
use Rattle.std.specs.Ordering.{is_eq}
use Rattle.std.proofs.lemmas.List.{map-append}
use Rattle.std.proofs.lemmas.List.Sums.{fold-append}
use Rattle.std.proofs.lemmas.Nat.{mul-mod}
use Rattle.px_terms.specs.Words.{word_product}
use Rattle.px_terms.specs.Terms.{Term, key_cmp, in_order, put_among, ordered, IsNormal, coefficient_at, value_at, product_at, gathered}
use Rattle.px_terms.specs.Polynomials.{Polynomial, IsPolynomial, terms_of, term_product, pairs, product_of, value_of}
use Rattle.px_terms.specs.Rows.{times_of, row_of, rows_of, scalar_of}
use Rattle.px_terms.proofs.InOrder.{Ordered, in_order_same}
use Rattle.px_terms.proofs.Gathering.{sum_both, sum_right, chosen_wrapped, wrapped_below, coefficient_append, value_append, gathered_coefficient}
use Rattle.px_terms.proofs.NormalForm.{AllHave, IsKey, have_append, keys_from, gathered_normal, known_by_coefficients, form_value}
use Rattle.px_terms.proofs.Products.{row_keys, rows_keys}
use Rattle.px_terms.proofs.Sums.{terms_value}

-- ---- coefficients

-- variables put among ordered ones are the variables of both in order
joined_keys : (s t : List ℕ) → Ordered t → in_order (t ++ s) ≡ fold put_among t s
joined_keys s t o = fold-append put_among [] t s ∙ ap (λ z. fold put_among z s) (in_order_same t o)

row_coefficient : (s : Term) (ts : List Term) (k : List ℕ) → AllHave Ordered ts
    → coefficient_at k (map ordered (map (term_product s) ts)) % 2 ^ 32 ≡ coefficient_at k (row_of s ts) % 2 ^ 32
row_coefficient s [] k h = refl
row_coefficient s (t ∷ ts) k h =
    ap (λ (z : List ℕ). (cond (is_eq (key_cmp k z)) (s.coefficient * t.coefficient) 0 + coefficient_at k (map ordered (map (term_product s) ts))) % 2 ^ 32) (joined_keys s.vars t.vars h.0)
    ∙ sym (chosen_wrapped (is_eq (key_cmp k (fold put_among t.vars s.vars))) (s.coefficient * t.coefficient) (coefficient_at k (map ordered (map (term_product s) ts))))
    ∙ sum_right (coefficient_at k (map ordered (map (term_product s) ts))) (coefficient_at k (row_of s ts))
    (cond (is_eq (key_cmp k (fold put_among t.vars s.vars))) ((s.coefficient * t.coefficient) % 2 ^ 32) 0) (row_coefficient s ts k h.1)

pub pairs_coefficient : (ss ts : List Term) (k : List ℕ) → AllHave Ordered ts
    → coefficient_at k (map ordered (pairs ss ts)) % 2 ^ 32 ≡ coefficient_at k (rows_of ss ts) % 2 ^ 32
pairs_coefficient [] ts k h = refl
pairs_coefficient (s ∷ ss) ts k h =
    ap (λ zs. coefficient_at k zs % 2 ^ 32) (map-append ordered (map (term_product s) ts) (pairs ss ts))
    ∙ ap (λ z. z % 2 ^ 32) (coefficient_append k (map ordered (map (term_product s) ts)) (map ordered (pairs ss ts)))
    ∙ sum_both (coefficient_at k (map ordered (map (term_product s) ts))) (coefficient_at k (row_of s ts)) (coefficient_at k (map ordered (pairs ss ts))) (coefficient_at k (rows_of ss ts))
    (row_coefficient s ts k h) (pairs_coefficient ss ts k h)
    ∙ ap (λ z. z % 2 ^ 32) (sym (coefficient_append k (row_of s ts) (rows_of ss ts)))

-- the products with a constant are the constant's products
constant_rows : (d : ℕ) (ss ts : List Term) (k : List ℕ) → AllHave IsKey ss
    → coefficient_at k (rows_of ss (scalar_of d ∷ ts)) ≡ coefficient_at k (row_of (scalar_of d) ss) + coefficient_at k (rows_of ss ts)
constant_rows d [] ts k h = refl
constant_rows d (s ∷ ss) ts k h =
    let head : times_of s (scalar_of d) ≡ times_of (scalar_of d) s =
    ap₂ (λ (c : ℕ) (m : List ℕ). record { coefficient = c % 2 ^ 32; vars = m }) (turned s.coefficient d) (in_order_same s.vars h.0.1) in
    coefficient_append k (row_of s (scalar_of d ∷ ts)) (rows_of ss (scalar_of d ∷ ts))
    ∙ ap₂ (λ (x : Term) (y : ℕ). (cond (is_eq (key_cmp k x.vars)) x.coefficient 0 + coefficient_at k (row_of s ts)) + y) head (constant_rows d ss ts k h.1)
    ∙ moved (cond (is_eq (key_cmp k s.vars)) ((d * s.coefficient) % 2 ^ 32) 0) (coefficient_at k (row_of s ts)) (coefficient_at k (row_of (scalar_of d) ss)) (coefficient_at k (rows_of ss ts))
    ∙ ap (λ z. (cond (is_eq (key_cmp k s.vars)) ((d * s.coefficient) % 2 ^ 32) 0 + coefficient_at k (row_of (scalar_of d) ss)) + z) (sym (coefficient_append k (row_of s ts) (rows_of ss ts)))
  where
    turned : (a b : ℕ) → a * b ≡ b * a
    turned a b = grind arith

    moved : (a r x y : ℕ) → (a + r) + (x + y) ≡ (a + x) + (r + y)
    moved a r x y = omega arith

all_ordered : (ts : List Term) → AllHave IsKey ts → AllHave Ordered ts
all_ordered [] h = tt
all_ordered (t ∷ ts) h = (h.0.1, all_ordered ts h.1)

module _ (p q : Polynomial) (np : IsPolynomial p) (nq : IsPolynomial q) where
  kp : AllHave IsKey p.monomials
  kp = keys_from p.monomials np.monomials

  kq : AllHave IsKey q.monomials
  kq = keys_from q.monomials nq.monomials

  -- the monomials of the product, before they are gathered
  abbrev product_rows : List Term
  product_rows = row_of (scalar_of q.constant) p.monomials ++ row_of (scalar_of p.constant) q.monomials ++ rows_of p.monomials q.monomials

  pub product_normal : IsNormal (gathered (row_of (scalar_of q.constant) p.monomials ++ row_of (scalar_of p.constant) q.monomials ++ rows_of p.monomials q.monomials))
  product_normal = gathered_normal product_rows
      (have_append IsKey (row_of (scalar_of q.constant) p.monomials ++ row_of (scalar_of p.constant) q.monomials) (rows_of p.monomials q.monomials)
      (have_append IsKey (row_of (scalar_of q.constant) p.monomials) (row_of (scalar_of p.constant) q.monomials)
      (row_keys (scalar_of q.constant) p.monomials kp) (row_keys (scalar_of p.constant) q.monomials kq))
      (rows_keys p.monomials q.monomials kq))

  rows_parts : (k : List ℕ) → coefficient_at k (rows_of (terms_of p) (terms_of q))
      ≡ cond (is_eq (key_cmp k [])) ((p.constant * q.constant) % 2 ^ 32) 0 + coefficient_at k product_rows
  rows_parts k =
      coefficient_append k (row_of (scalar_of p.constant) (terms_of q)) (rows_of p.monomials (terms_of q))
      ∙ ap (λ z. (cond (is_eq (key_cmp k [])) ((p.constant * q.constant) % 2 ^ 32) 0 + coefficient_at k (row_of (scalar_of p.constant) q.monomials)) + z)
      (constant_rows q.constant p.monomials q.monomials k kp)
      ∙ moved (cond (is_eq (key_cmp k [])) ((p.constant * q.constant) % 2 ^ 32) 0) (coefficient_at k (row_of (scalar_of p.constant) q.monomials))
      (coefficient_at k (row_of (scalar_of q.constant) p.monomials)) (coefficient_at k (rows_of p.monomials q.monomials))
      ∙ ap (λ z. cond (is_eq (key_cmp k [])) ((p.constant * q.constant) % 2 ^ 32) 0 + z)
      (sym (coefficient_append k (row_of (scalar_of q.constant) p.monomials ++ row_of (scalar_of p.constant) q.monomials) (rows_of p.monomials q.monomials)
      ∙ ap (λ z. z + coefficient_at k (rows_of p.monomials q.monomials)) (coefficient_append k (row_of (scalar_of q.constant) p.monomials) (row_of (scalar_of p.constant) q.monomials))))
    where
      moved : (a b c d : ℕ) → (a + b) + (c + d) ≡ a + ((c + b) + d)
      moved a b c d = omega arith

  pub product_form : (c : ℕ) → c ≡ (p.constant * q.constant) % 2 ^ 32 → (ms : List Term)
      → ms ≡ gathered (row_of (scalar_of q.constant) p.monomials ++ row_of (scalar_of p.constant) q.monomials ++ rows_of p.monomials q.monomials)
      → record { constant = c; monomials = ms } ≡ product_of p q
  product_form c e ms f =
      let r : Polynomial = record { constant = c; monomials = ms } in
      known_by_coefficients r (pairs (terms_of p) (terms_of q))
      (record { constant = subst (λ z. z < 2 ^ 32) (sym e) (wrapped_below (p.constant * q.constant)); monomials = subst IsNormal (sym f) product_normal })
      (λ k. ap₂ (λ (z : ℕ) (zs : List Term). (cond (is_eq (key_cmp k [])) z 0 + coefficient_at k zs) % 2 ^ 32) e f
      ∙ sum_right (coefficient_at k (gathered product_rows)) (coefficient_at k product_rows) (cond (is_eq (key_cmp k [])) ((p.constant * q.constant) % 2 ^ 32) 0) (gathered_coefficient product_rows k)
      ∙ ap (λ z. z % 2 ^ 32) (sym (rows_parts k))
      ∙ sym (pairs_coefficient (terms_of p) (terms_of q) k (tt, all_ordered q.monomials kq)))

-- ---- values

pub product-append : (v : ℕ → ℕ) (a b : List ℕ) → product_at v (a ++ b) ≡ product_at v a * product_at v b
product-append v [] b = grind arith
product-append v (x ∷ a) b = ap (λ z. v x * z) (product-append v a b) ∙ grouped (v x) (product_at v a) (product_at v b)
  where
    grouped : (a b c : ℕ) → a * (b * c) ≡ (a * b) * c
    grouped a b c = grind arith

pub scaled_value : (v : ℕ → ℕ) (s : Term) (ts : List Term) → value_at v (map (term_product s) ts) ≡ s.coefficient * product_at v s.vars * value_at v ts
scaled_value v s [] = nothing (s.coefficient * product_at v s.vars)
  where
    nothing : (a : ℕ) → 0 ≡ a * 0
    nothing a = grind arith
scaled_value v s (t ∷ ts) =
    ap₂ (λ (x : ℕ) (y : ℕ). s.coefficient * t.coefficient * x + y) (product-append v t.vars s.vars) (scaled_value v s ts)
    ∙ grouped s.coefficient t.coefficient (product_at v s.vars) (product_at v t.vars) (value_at v ts)
  where
    grouped : (a b p q r : ℕ) → a * b * (q * p) + a * p * r ≡ a * p * (b * q + r)
    grouped a b p q r = grind arith

pub pairs_value : (v : ℕ → ℕ) (a b : List Term) → value_at v (pairs a b) ≡ value_at v a * value_at v b
pairs_value v [] b = nothing (value_at v b)
  where
    nothing : (a : ℕ) → 0 ≡ 0 * a
    nothing a = grind arith
pairs_value v (s ∷ a) b =
    value_append v (map (term_product s) b) (pairs a b)
    ∙ ap₂ (λ (x : ℕ) (y : ℕ). x + y) (scaled_value v s b) (pairs_value v a b)
    ∙ grouped (s.coefficient * product_at v s.vars) (value_at v a) (value_at v b)
  where
    grouped : (p q r : ℕ) → p * r + q * r ≡ (p + q) * r
    grouped p q r = grind arith

pub product_value : (p q : Polynomial) (v : ℕ → ℕ) → value_of v (product_of p q) ≡ word_product (value_of v p) (value_of v q)
product_value p q v =
    form_value (pairs (terms_of p) (terms_of q)) v
    ∙ ap (λ z. z % 2 ^ 32) (pairs_value v (terms_of p) (terms_of q))
    ∙ mul-mod (value_at v (terms_of p)) (value_at v (terms_of q)) (2 ^ 32)
    ∙ ap₂ (λ (x : ℕ) (y : ℕ). (x * y) % 2 ^ 32) (terms_value v p) (terms_value v q)

-- ---- what the code gathers

module _ (p q : Polynomial) (np : IsPolynomial p) (nq : IsPolynomial q) (a b ms : List Term) (e : a ≡ p.monomials) (f : b ≡ q.monomials)
    (h : ms ≡ gathered (row_of (scalar_of q.constant) a ++ row_of (scalar_of p.constant) b ++ rows_of a b)) where
  of_monomials : ms ≡ gathered (row_of (scalar_of q.constant) p.monomials ++ row_of (scalar_of p.constant) q.monomials ++ rows_of p.monomials q.monomials)
  of_monomials = h ∙ ap₂ (λ (x : List Term) (y : List Term). gathered (row_of (scalar_of q.constant) x ++ row_of (scalar_of p.constant) y ++ rows_of x y)) e f

  pub product_made_normal : IsNormal ms
  product_made_normal = subst IsNormal (sym of_monomials) (product_normal p q np nq)

  pub product_made : (c : ℕ) → c ≡ (p.constant * q.constant) % 2 ^ 32 → record { constant = c; monomials = ms } ≡ product_of p q
  product_made c k = product_form p q np nq c k ms of_monomials
