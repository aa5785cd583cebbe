-- The normal form of any terms: its shape, its value, and that it is known by its coefficients.
use Rattle.std.proofs.Common.{◌≡◌, ℕ, ◌<◌, ◌+◌, ◌*◌, ◌%◌, ◌^◌, ◌++◌, List, [], ◌∷◌, length, map, refl, ap, ap₂, sym, ◌∙◌, arith}
use Rattle.std.specs.Prelude.{cond, true, All}
use Rattle.std.specs.declared.cmp.Ordering.TheVariants.{Less, Equal, Greater}
use Rattle.std.specs.declared.cmp.Ordering.{Ordering}
use Rattle.std.specs.Ordering.{is_eq, ordering_reverse}
use Rattle.std.proofs.lemmas.List.Elements.{All-from_recursion, recursion_from_All}
use Rattle.px_terms.specs.Terms.{Term, key_cmp, in_order, ordered, product_at, value_at, coefficient_at, IsRising, IsNormal, put_term, place_term, add_term, gathered}
use Rattle.px_terms.specs.Polynomials.{Polynomial, terms_of, has_variables, with_variables, normal_form, IsPolynomial, NormalForms, value_of}
use Rattle.px_terms.proofs.InOrder.{Ordered, ordered_from, non_decreasing_from, fold_ordered, length-fold_put, nat_less, product-fold_put, in_order_same}
use Rattle.px_terms.proofs.KeyOrder.{key_total}
use Rattle.px_terms.proofs.Gathering.{Alike, same_word, sum_both, wrapped_twice, wrapped_below, by_zero, gathered_rising, gathered_coefficient, gathered_value, rising_unique}

-- ---- variables of gathered terms are variables of the terms

-- the variables of each term have P
abbrev pub AllHave : (List ℕ → Type 0) → List Term → Type 0
AllHave P [] = Unit {0}
AllHave P (t ∷ ts) = P t.vars × AllHave P ts

put_have : (P : List ℕ → Type 0) (c : ℕ) (m : List ℕ) (ts : List Term) → P m → AllHave P ts → AllHave P (put_term c m ts)
put_have P c m ts p h = by_zero (AllHave P) c m ts (λ z. h) (λ n. (p, h))

place_have : (P : List ℕ → Type 0) (o : Ordering) (t s : Term) (ss later : List Term) → P t.vars → AllHave P (s ∷ ss) → AllHave P later → AllHave P (place_term o t s ss later)
place_have P Less t s ss later p h g = put_have P t.coefficient t.vars (s ∷ ss) p h
place_have P Equal t s ss later p h g = put_have P (t.coefficient + s.coefficient) s.vars ss h.0 h.1
place_have P Greater t s ss later p h g = (h.0, g)

add_have : (P : List ℕ → Type 0) (t : Term) (ts : List Term) → P t.vars → AllHave P ts → AllHave P (add_term t ts)
add_have P t [] p h = put_have P t.coefficient t.vars [] p h
add_have P t (s ∷ ss) p h = place_have P (key_cmp t.vars s.vars) t s ss (add_term t ss) p h (add_have P t ss p h.1)

pub gathered_have : (P : List ℕ → Type 0) (ts : List Term) → AllHave P ts → AllHave P (gathered ts)
gathered_have P [] h = tt
gathered_have P (t ∷ ts) h = add_have P t (gathered ts) h.0 (gathered_have P ts h.1)

pub have_append : (P : List ℕ → Type 0) (a b : List Term) → AllHave P a → AllHave P b → AllHave P (a ++ b)
have_append P [] b h g = g
have_append P (t ∷ a) b h g = (h.0, have_append P a b h.1 g)

pub all_from_have : (P : List ℕ → Type 0) (ts : List Term) → AllHave P ts → All (λ t. P t.vars) ts
all_from_have P ts h = All-from_recursion (λ (t : Term). P t.vars) ts (recursion ts h)
  where
    recursion : (ts : List Term) → AllHave P ts → Rattle.std.specs.List.AllByRecursion (λ (t : Term). P t.vars) ts
    recursion [] h = tt
    recursion (t ∷ ts) h = (h.0, recursion ts h.1)

pub have_from_all : (P : List ℕ → Type 0) (ts : List Term) → All (λ t. P t.vars) ts → AllHave P ts
have_from_all P ts h = recursion ts (recursion_from_All (λ (t : Term). P t.vars) ts h)
  where
    recursion : (ts : List Term) → Rattle.std.specs.List.AllByRecursion (λ (t : Term). P t.vars) ts → AllHave P ts
    recursion [] h = tt
    recursion (t ∷ ts) h = (h.0, recursion ts h.1)

-- there are variables, and they are in order
abbrev pub IsKey : List ℕ → Type 0
IsKey k = (0 < length k) × Ordered k

pub normal_from : (ts : List Term) → IsRising ts → AllHave IsKey ts → IsNormal ts
normal_from ts r h = record {
  rising = r;
  variables = all_from_have (λ k. (0 < length k) × Rattle.std.specs.List.Sorted.IsNonDecreasing k) ts (keys ts h);
}
  where
    keys : (ts : List Term) → AllHave IsKey ts → AllHave (λ k. (0 < length k) × Rattle.std.specs.List.Sorted.IsNonDecreasing k) ts
    keys [] h = tt
    keys (t ∷ ts) h = ((h.0.0, non_decreasing_from t.vars h.0.1), keys ts h.1)

pub keys_from : (ts : List Term) → IsNormal ts → AllHave IsKey ts
keys_from ts n = keys ts (have_from_all (λ k. (0 < length k) × Rattle.std.specs.List.Sorted.IsNonDecreasing k) ts n.variables)
  where
    keys : (ts : List Term) → AllHave (λ k. (0 < length k) × Rattle.std.specs.List.Sorted.IsNonDecreasing k) ts → AllHave IsKey ts
    keys [] h = tt
    keys (t ∷ ts) h = ((h.0.0, ordered_from t.vars h.0.1), keys ts h.1)

pub gathered_normal : (ts : List Term) → AllHave IsKey ts → IsNormal (gathered ts)
gathered_normal ts h = normal_from (gathered ts) (gathered_rising ts) (gathered_have IsKey ts h)

-- ---- the terms that have variables

-- a term is left out or kept, by whether it has variables
by_variables : (P : List Term → Type 0) (c : ℕ) (k : List ℕ) (ts : List Term) → (k ≡ [] → P ts) → (0 < length k → P (record { coefficient = c; vars = k } ∷ ts))
    → P (cond (has_variables k) (record { coefficient = c; vars = k } ∷ ts) ts)
by_variables P c [] ts none some = none refl
by_variables P c (x ∷ xs) ts none some = some (omega arith)

kept_keys : (ts : List Term) → AllHave IsKey (with_variables (map ordered ts))
kept_keys [] = tt
kept_keys (t ∷ ts) =
    by_variables (AllHave IsKey) t.coefficient (in_order t.vars) (with_variables (map ordered ts)) (λ e. kept_keys ts) (λ h. ((h, fold_ordered t.vars [] tt), kept_keys ts))

pub form_polynomial : (ts : List Term) → IsPolynomial (normal_form ts)
form_polynomial ts = record {
  constant = wrapped_below (coefficient_at [] ts);
  monomials = gathered_normal (with_variables (map ordered ts)) (kept_keys ts);
}

-- no variables stand before any
pub none_first : (x : ℕ) (xs : List ℕ) → key_cmp [] (x ∷ xs) ≡ Less
none_first x xs = rw (nat_less 0 (length (x ∷ xs)) (omega arith)) refl

some_last : (x : ℕ) (xs : List ℕ) → key_cmp (x ∷ xs) [] ≡ Greater
some_last x xs = key_total.antisymm (x ∷ xs) [] ∙ ap ordering_reverse (none_first x xs)

-- ---- the value

pub in_order_kept : (x : ℕ) (xs : List ℕ) → has_variables (in_order (x ∷ xs)) ≡ true
in_order_kept x xs = some (in_order (x ∷ xs)) (length-fold_put (x ∷ xs) [])
  where
    some : (o : List ℕ) → length o ≡ 0 + length (x ∷ xs) → has_variables o ≡ true
    some [] h = absurd (omega arith)
    some (y ∷ ys) h = refl

pub product-in_order : (v : ℕ → ℕ) (k : List ℕ) → product_at v (in_order k) ≡ product_at v k
product-in_order v k = product-fold_put v k [] ∙ single (product_at v k)
  where
    single : (a : ℕ) → 1 * a ≡ a
    single a = grind arith

value_of_constant : (c a b w : ℕ) → a + b ≡ w → c + a + b ≡ c * 1 + w
value_of_constant c a b w h = omega arith

value_of_other : (m a b w : ℕ) → a + b ≡ w → 0 + a + (m + b) ≡ m + w
value_of_other m a b w h = omega arith

-- the terms without variables and the others have the value of all
kept_value : (v : ℕ → ℕ) (ts : List Term) → coefficient_at [] ts + value_at v (with_variables (map ordered ts)) ≡ value_at v ts
kept_value v [] = refl
kept_value v (t ∷ ts) = one t.coefficient t.vars (kept_value v ts)
  where
    one : (c : ℕ) (k : List ℕ) → coefficient_at [] ts + value_at v (with_variables (map ordered ts)) ≡ value_at v ts
        → (cond (is_eq (key_cmp [] k)) c 0 + coefficient_at [] ts) + value_at v (cond (has_variables (in_order k)) (record { coefficient = c; vars = in_order k } ∷ with_variables (map ordered ts)) (with_variables (map ordered ts)))
        ≡ c * product_at v k + value_at v ts
    one c [] h = value_of_constant c (coefficient_at [] ts) (value_at v (with_variables (map ordered ts))) (value_at v ts) h
    one c (x ∷ xs) h =
        rw (none_first x xs, in_order_kept x xs, product-in_order v (x ∷ xs))
        (value_of_other (c * product_at v (x ∷ xs)) (coefficient_at [] ts) (value_at v (with_variables (map ordered ts))) (value_at v ts) h)

pub form_value : (ts : List Term) (v : ℕ → ℕ) → value_of v (normal_form ts) ≡ value_at v ts % 2 ^ 32
form_value ts v =
    sum_both (coefficient_at [] ts % 2 ^ 32) (coefficient_at [] ts) (value_at v (gathered (with_variables (map ordered ts)))) (value_at v (with_variables (map ordered ts)))
    (wrapped_twice (coefficient_at [] ts)) (gathered_value (with_variables (map ordered ts)) v)
    ∙ ap (λ x. x % 2 ^ 32) (kept_value v ts)

-- ---- coefficients

-- no variables have no coefficient among terms that have some
none_at_none : (ts : List Term) → AllHave IsKey ts → coefficient_at [] ts ≡ 0
none_at_none [] h = refl
none_at_none (t ∷ ts) h = one t.vars h.0.0 (none_at_none ts h.1)
  where
    one : (k : List ℕ) → 0 < length k → coefficient_at [] ts ≡ 0 → cond (is_eq (key_cmp [] k)) t.coefficient 0 + coefficient_at [] ts ≡ 0
    one [] p h = absurd (omega arith)
    one (x ∷ xs) p h = rw (none_first x xs) (omega arith)

-- terms with variables are all kept
coefficient_kept : (x : ℕ) (xs : List ℕ) (ts : List Term) → coefficient_at (x ∷ xs) (with_variables ts) ≡ coefficient_at (x ∷ xs) ts
coefficient_kept x xs [] = refl
coefficient_kept x xs (t ∷ ts) = one t.coefficient t.vars (coefficient_kept x xs ts)
  where
    one : (c : ℕ) (k : List ℕ) → coefficient_at (x ∷ xs) (with_variables ts) ≡ coefficient_at (x ∷ xs) ts
        → coefficient_at (x ∷ xs) (cond (has_variables k) (record { coefficient = c; vars = k } ∷ with_variables ts) (with_variables ts)) ≡ cond (is_eq (key_cmp (x ∷ xs) k)) c 0 + coefficient_at (x ∷ xs) ts
    one c [] h = rw (some_last x xs) (omega arith)
    one c (y ∷ ys) h = ap (λ z. cond (is_eq (key_cmp (x ∷ xs) (y ∷ ys))) c 0 + z) h

-- without variables, terms are known before they are put in order
coefficient_ordered : (ts : List Term) → coefficient_at [] (map ordered ts) ≡ coefficient_at [] ts
coefficient_ordered [] = refl
coefficient_ordered (t ∷ ts) = one t.vars (coefficient_ordered ts)
  where
    one : (k : List ℕ) → coefficient_at [] (map ordered ts) ≡ coefficient_at [] ts
        → cond (is_eq (key_cmp [] (in_order k))) t.coefficient 0 + coefficient_at [] (map ordered ts) ≡ cond (is_eq (key_cmp [] k)) t.coefficient 0 + coefficient_at [] ts
    one [] h = ap (λ z. t.coefficient + z) h
    one (x ∷ xs) h = some (in_order (x ∷ xs)) (length-fold_put (x ∷ xs) [])
      where
        some : (o : List ℕ) → length o ≡ 0 + length (x ∷ xs)
            → cond (is_eq (key_cmp [] o)) t.coefficient 0 + coefficient_at [] (map ordered ts) ≡ cond (is_eq (key_cmp [] (x ∷ xs))) t.coefficient 0 + coefficient_at [] ts
        some [] e = absurd (omega arith)
        some (y ∷ ys) e = rw (none_first y ys, none_first x xs) (ap (λ z. 0 + z) h)

pub form_coefficient : (ts : List Term) (k : List ℕ) → coefficient_at k (terms_of (normal_form ts)) % 2 ^ 32 ≡ coefficient_at k (map ordered ts) % 2 ^ 32
form_coefficient ts [] =
    ap (λ z. (coefficient_at [] ts % 2 ^ 32 + z) % 2 ^ 32) (none_at_none (gathered (with_variables (map ordered ts))) (gathered_have IsKey (with_variables (map ordered ts)) (kept_keys ts)))
    ∙ wrapped (coefficient_at [] ts)
    ∙ ap (λ z. z % 2 ^ 32) (sym (coefficient_ordered ts))
  where
    wrapped : (a : ℕ) → (a % 2 ^ 32 + 0) % 2 ^ 32 ≡ a % 2 ^ 32
    wrapped a = omega arith
form_coefficient ts (x ∷ xs) =
    rw (some_last x xs)
    (ap (λ z. z % 2 ^ 32) (plain (coefficient_at (x ∷ xs) (gathered (with_variables (map ordered ts)))))
    ∙ gathered_coefficient (with_variables (map ordered ts)) (x ∷ xs)
    ∙ ap (λ z. z % 2 ^ 32) (coefficient_kept x xs (map ordered ts)))
  where
    plain : (a : ℕ) → 0 + a ≡ a
    plain a = omega arith

-- the coefficients of a polynomial's monomials are those of its terms
monomial_coefficient : (c x : ℕ) (xs : List ℕ) (ts : List Term) → coefficient_at (x ∷ xs) (record { coefficient = c; vars = [] } ∷ ts) ≡ coefficient_at (x ∷ xs) ts
monomial_coefficient c x xs ts = rw (some_last x xs) (omega arith)

constant_coefficient : (c : ℕ) (ts : List Term) → AllHave IsKey ts → coefficient_at [] (record { coefficient = c; vars = [] } ∷ ts) ≡ c
constant_coefficient c ts h = let e = none_at_none ts h in omega arith

-- polynomials with the same coefficients are one
pub form_unique : (p q : Polynomial) → IsPolynomial p → IsPolynomial q
    → ((k : List ℕ) → coefficient_at k (terms_of p) % 2 ^ 32 ≡ coefficient_at k (terms_of q) % 2 ^ 32) → p ≡ q
form_unique p q np nq h =
    ap₂ (λ (c : ℕ) (ts : List Term). record { constant = c; monomials = ts })
    (same_word p.constant q.constant np.constant nq.constant
    (ap (λ z. z % 2 ^ 32) (sym (constant_coefficient p.constant p.monomials kp)) ∙ h [] ∙ ap (λ z. z % 2 ^ 32) (constant_coefficient q.constant q.monomials kq)))
    (rising_unique p.monomials q.monomials np.monomials.rising nq.monomials.rising alike)
  where
    kp : AllHave IsKey p.monomials
    kp = keys_from p.monomials np.monomials

    kq : AllHave IsKey q.monomials
    kq = keys_from q.monomials nq.monomials

    alike : Alike p.monomials q.monomials
    alike [] = ap (λ z. z % 2 ^ 32) (none_at_none p.monomials kp ∙ sym (none_at_none q.monomials kq))
    alike (x ∷ xs) =
        ap (λ z. z % 2 ^ 32) (sym (monomial_coefficient p.constant x xs p.monomials)) ∙ h (x ∷ xs) ∙ ap (λ z. z % 2 ^ 32) (monomial_coefficient q.constant x xs q.monomials)

-- a polynomial with the coefficients of some terms is their normal form
pub known_by_coefficients : (p : Polynomial) (ts : List Term) → IsPolynomial p
    → ((k : List ℕ) → coefficient_at k (terms_of p) % 2 ^ 32 ≡ coefficient_at k (map ordered ts) % 2 ^ 32) → p ≡ normal_form ts
known_by_coefficients p ts n h = form_unique p (normal_form ts) n (form_polynomial ts) (λ k. h k ∙ sym (form_coefficient ts k))

-- terms whose variables are in order
pub ordered_same : (ts : List Term) → AllHave IsKey ts → map ordered ts ≡ ts
ordered_same [] h = refl
ordered_same (t ∷ ts) h =
    ap₂ (λ (k : List ℕ) (us : List Term). record { coefficient = t.coefficient; vars = k } ∷ us) (in_order_same t.vars h.0.1) (ordered_same ts h.1)

pub terms_ordered : (p : Polynomial) → IsPolynomial p → map ordered (terms_of p) ≡ terms_of p
terms_ordered p n = ap (λ us. record { coefficient = p.constant; vars = [] } ∷ us) (ordered_same p.monomials (keys_from p.monomials n.monomials))

pub form_stays : (p : Polynomial) → IsPolynomial p → normal_form (terms_of p) ≡ p
form_stays p n = sym (known_by_coefficients p (terms_of p) n (λ k. ap (λ us. coefficient_at k us % 2 ^ 32) (sym (terms_ordered p n))))

pub normal_form_laws : NormalForms
normal_form_laws = record {
  is_polynomial = form_polynomial;
  same_value = form_value;
  same_coefficients = form_coefficient;
  unique = form_unique;
  stays = form_stays;
}

-- terms with the same coefficients have the same normal form
pub form_alike : (a b : List Term) → ((k : List ℕ) → coefficient_at k (map ordered a) % 2 ^ 32 ≡ coefficient_at k (map ordered b) % 2 ^ 32) → normal_form a ≡ normal_form b
form_alike a b h = known_by_coefficients (normal_form a) b (form_polynomial a) (λ k. form_coefficient a k ∙ h k)
