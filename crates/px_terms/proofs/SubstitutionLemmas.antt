-- What stands for variables, and what a substitution gathers.
use Rattle.std.proofs.Common.{◌≡◌, ◌<◌, ◌≤◌, ◌+◌, ◌*◌, ◌%◌, ◌^◌, ◌++◌, ℕ, List, [], ◌∷◌, length, get_or, take, drop, ◌-◌, map, get_or-take, length-take, refl, ap, ap₂, sym, subst, ◌∙◌, arith, add-one, drop-cons, append_assoc, append-nil}
use Rattle.std.specs.Prelude.{suc, cond, true, false, Bool, Some, None, All, flat_map}
use Rattle.std.specs.Ordering.{is_eq}
use Rattle.std.proofs.Math.ListN.{drop_of_length-le}
use Rattle.std.proofs.lemmas.Bool.{ne_eqb}
use Rattle.std.proofs.lemmas.List.{map-append, take_more, length-map, get_or-map}
use Rattle.std.proofs.lemmas.Nat.{mul-mod_first, mul-mod_second}
use Rattle.px_terms.specs.Rows.{scalar_of}
use Rattle.px_terms.specs.Monomials.{term_of}
use Rattle.px_terms.specs.declared.monomial.Monomial.{Monomial}
use Rattle.px_terms.specs.Terms.{Term, key_cmp, in_order, ordered, coefficient_at, value_at, product_at, HasOrderedVariables}
use Rattle.px_terms.specs.Polynomials.{Polynomial, IsPolynomial, terms_of, normal_form, term_product, pairs, product_of, value_of}
use Rattle.px_terms.specs.Substitutions.{content_for, image_of, expansion, substituted, substitution_of, images_at}
use Rattle.px_terms.specs.Wides.{wide_of}
use Rattle.px_terms.specs.declared.wide.Wide.{Wide}
use Rattle.px_terms.specs.declared.variables.Var.{Var}
use Rattle.px_terms.specs.declared.conjuncts.Content.{Content}
use Rattle.px_terms.proofs.Gathering.{sum_both, coefficient_append, value_append}
use Rattle.px_terms.proofs.NormalForm.{form_polynomial, form_coefficient, form_alike, form_stays, form_value, terms_ordered}
use Rattle.px_terms.proofs.Degrees.{key_length}
use Rattle.px_terms.proofs.Sums.{terms_value}
use Rattle.px_terms.proofs.PolyProducts.{pairs_value, scaled_value}
use Rattle.px_terms.proofs.Evaluation.{taken_more}
use Rattle.px_terms.proofs.Weights.{pairs_form}
use Rattle.px_terms.proofs.Tests.{same_number}

-- ---- the first content that stands for a variable

from_place : (with : List (Var × Content)) (i : ℕ) (pair : Var × Content) → i < length with → pair ≡ get_or with i pair → drop i with ≡ pair ∷ drop (i + 1) with
from_place with i pair h e = drop-cons with i pair h ∙ ap₂ ◌∷◌ (sym e) (ap (λ k. drop k with) (sym (add-one i)))

pub found : (with : List (Var × Content)) (i : ℕ) (pair : Var × Content) (x : ℕ) → i < length with → pair ≡ get_or with i pair → pair.0.0 ≡ x
    → content_for (drop i with) x ≡ content_for with x → Some pair.1 ≡ content_for with x
found with i pair x h e same k =
    ap (λ b. cond b (Some pair.1) (content_for (drop (i + 1) with) x)) (sym (same_number pair.0.0 x same))
    ∙ ap (λ z. content_for z x) (sym (from_place with i pair h e)) ∙ k

pub skipped : (with : List (Var × Content)) (i : ℕ) (pair : Var × Content) (x : ℕ) → i < length with → pair ≡ get_or with i pair → (pair.0.0 ≡ x → ⊥)
    → content_for (drop i with) x ≡ content_for with x → content_for (drop (i + 1) with) x ≡ content_for with x
skipped with i pair x h e other k =
    ap (λ b. cond b (Some pair.1) (content_for (drop (i + 1) with) x)) (sym (ne_eqb pair.0.0 x other))
    ∙ ap (λ z. content_for z x) (sym (from_place with i pair h e)) ∙ k

pub nothing_found : (with : List (Var × Content)) (i : ℕ) (x : ℕ) → length with ≤ i → content_for (drop i with) x ≡ content_for with x → None ≡ content_for with x
nothing_found with i x h k = ap (λ z. content_for z x) (sym (drop_of_length-le with h)) ∙ k

-- ---- products and sums of what stands for variables

-- the product with what comes in the place of one more variable
pub expansion_more : (with : List (Var × Content)) (x : ℕ) (xs : List ℕ) (q : Polynomial) → q ≡ normal_form (expansion with xs)
    → product_of (image_of with x) q ≡ normal_form (expansion with (x ∷ xs))
expansion_more with x xs q e =
    ap (product_of (image_of with x)) e
    ∙ form_alike (pairs (terms_of (image_of with x)) (terms_of (normal_form (expansion with xs)))) (expansion with (x ∷ xs))
    (λ k. pairs_form k (terms_of (image_of with x)) (expansion with xs))

-- the variables from one place before
pub one_back : (xs : List ℕ) (n done : ℕ) → done < n → n ≤ length xs → drop (n - (done + 1)) (take n xs) ≡ get_or xs (n - 1 - done) 0 ∷ drop (n - done) (take n xs)
one_back xs n done h k =
    let i = n - 1 - done in
    let e : n - (done + 1) ≡ i = omega arith in
    let f : suc i ≡ n - done = omega arith in
    let g : i < n = omega arith in
    ap (λ z. drop z (take n xs)) e
    ∙ drop-cons (take n xs) i 0 (let l = length-take n xs in omega arith)
    ∙ ap₂ (λ (x : ℕ) (z : ℕ). x ∷ drop z (take n xs)) (rw get_or-take) f

chosen_scaled : (b : Bool) (u c r s : ℕ) → r ≡ u * s → cond b (u * c) 0 + r ≡ u * (cond b c 0 + s)
chosen_scaled true u c r s h = ap (λ z. u * c + z) h ∙ shared u c s
  where
    shared : (u c s : ℕ) → u * c + u * s ≡ u * (c + s)
    shared u c s = grind arith
chosen_scaled false u c r s h = ap (λ z. 0 + z) h ∙ plain u s
  where
    plain : (u s : ℕ) → 0 + u * s ≡ u * (0 + s)
    plain u s = grind arith

scaled_exact : (u : ℕ) (ts : List Term) (k : List ℕ) → coefficient_at k (map ordered (map (term_product (scalar_of u)) ts)) ≡ u * coefficient_at k (map ordered ts)
scaled_exact u [] k = nothing u
  where
    nothing : (u : ℕ) → 0 ≡ u * 0
    nothing u = grind arith
scaled_exact u (t ∷ ts) k =
    ap (λ (z : List ℕ). cond (is_eq (key_cmp k (in_order z))) (u * t.coefficient) 0 + coefficient_at k (map ordered (map (term_product (scalar_of u)) ts))) (append-nil t.vars)
    ∙ chosen_scaled (is_eq (key_cmp k (in_order t.vars))) u t.coefficient (coefficient_at k (map ordered (map (term_product (scalar_of u)) ts))) (coefficient_at k (map ordered ts)) (scaled_exact u ts k)

-- a word times the terms of a polynomial
pub scaled_terms : (u : ℕ) (q : Polynomial) → IsPolynomial q → (k : List ℕ)
    → coefficient_at k (map ordered (map (term_product (scalar_of u)) (terms_of q))) % 2 ^ 32 ≡ (u * coefficient_at k (terms_of q)) % 2 ^ 32
scaled_terms u q n k = ap (λ z. z % 2 ^ 32) (scaled_exact u (terms_of q) k ∙ ap (λ zs. u * coefficient_at k zs) (terms_ordered q n))

scaled_mod : (u a b : ℕ) → a % 2 ^ 32 ≡ b % 2 ^ 32 → (u * a) % 2 ^ 32 ≡ (u * b) % 2 ^ 32
scaled_mod u a b h = sym (mul-mod_second u a (2 ^ 32)) ∙ ap (λ z. (u * z) % 2 ^ 32) h ∙ mul-mod_second u b (2 ^ 32)

-- parts that are normal forms
sum_of_forms : (a e : List Term) (u : ℕ)
    → normal_form (terms_of (normal_form a) ++ map (term_product (scalar_of u)) (terms_of (normal_form e))) ≡ normal_form (a ++ map (term_product (scalar_of u)) e)
sum_of_forms a e u =
    let p = terms_of (normal_form a) in
    let q = terms_of (normal_form e) in
    let times = term_product (scalar_of u) in
    form_alike (p ++ map times q) (a ++ map times e)
    (λ k. ap (λ zs. coefficient_at k zs % 2 ^ 32) (map-append ordered p (map times q))
    ∙ ap (λ z. z % 2 ^ 32) (coefficient_append k (map ordered p) (map ordered (map times q)))
    ∙ sum_both (coefficient_at k (map ordered p)) (coefficient_at k (map ordered a)) (coefficient_at k (map ordered (map times q))) (coefficient_at k (map ordered (map times e)))
    (ap (λ zs. coefficient_at k zs % 2 ^ 32) (terms_ordered (normal_form a) (form_polynomial a)) ∙ form_coefficient a k)
    (scaled_terms u (normal_form e) (form_polynomial e) k
    ∙ scaled_mod u (coefficient_at k q) (coefficient_at k (map ordered e)) (form_coefficient e k)
    ∙ ap (λ z. z % 2 ^ 32) (sym (scaled_exact u e k)))
    ∙ ap (λ z. z % 2 ^ 32) (sym (coefficient_append k (map ordered a) (map ordered (map times e))))
    ∙ ap (λ zs. coefficient_at k zs % 2 ^ 32) (sym (map-append ordered a (map times e))))

flat_last : (f : Term → List Term) (ts : List Term) (t : Term) → flat_map f (ts ++ t ∷ []) ≡ flat_map f ts ++ f t
flat_last f [] t = append-nil (f t)
flat_last f (x ∷ ts) t = ap (λ z. f x ++ z) (flat_last f ts t) ∙ sym (append_assoc (f x) (flat_map f ts) (f t))

-- one monomial more is gathered
pub total_more : (with : List (Var × Content)) (c : ℕ) (ms : List (Monomial 4)) (i : ℕ) (m : Monomial 4) (old product new : Polynomial) → i < length ms → m ≡ get_or ms i m
    → old ≡ normal_form (flat_map (substituted with) (terms_of (record { constant = c; monomials = map term_of (take i ms) })))
    → product ≡ normal_form (expansion with (term_of m).vars)
    → new ≡ normal_form (terms_of old ++ map (term_product (scalar_of m.coefficient)) (terms_of product))
    → new ≡ normal_form (flat_map (substituted with) (terms_of (record { constant = c; monomials = map term_of (take (i + 1) ms) })))
total_more with c ms i m old product new h e f g n =
    let done = flat_map (substituted with) (terms_of (record { constant = c; monomials = map term_of (take i ms) })) in
    n ∙ ap₂ (λ (x : Polynomial) (y : Polynomial). normal_form (terms_of x ++ map (term_product (scalar_of m.coefficient)) (terms_of y))) f g
    ∙ sum_of_forms done (expansion with (term_of m).vars) m.coefficient
    ∙ ap normal_form (sym (ap (λ zs. flat_map (substituted with) (record { coefficient = c; vars = [] } ∷ zs)) (taken_more ms i m h e)
    ∙ flat_last (substituted with) (record { coefficient = c; vars = [] } ∷ map term_of (take i ms)) (term_of m)))

-- a polynomial on the way whose monomials are lent
pub lent_terms : {n : ℕ} (w : Wide n) (ms : List (Monomial n)) (p : Polynomial) → ms ≡ w.monomials.items → wide_of w ≡ p → record { constant = w.constant; monomials = map term_of ms } ≡ p
lent_terms {n} w ms p e f = ap (λ (zs : List (Monomial n)). record { constant = w.constant; monomials = map term_of zs }) e ∙ f

-- ---- monomials of one variable

pairs_one : (ts : List Term) → pairs ts (record { coefficient = 1; vars = [] } ∷ []) ≡ ts
pairs_one [] = refl
pairs_one (t ∷ ts) = ap₂ ◌∷◌ (ap (λ c. record { coefficient = c; vars = t.vars }) (once t.coefficient)) (pairs_one ts)
  where
    once : (c : ℕ) → c * 1 ≡ c
    once c = grind arith

-- what comes in the place of one variable is no product
pub image_alone : (with : List (Var × Content)) (x : ℕ) (xs : List ℕ) → IsPolynomial (image_of with x) → xs ≡ x ∷ [] → image_of with x ≡ normal_form (expansion with xs)
image_alone with x xs n e =
    sym (form_stays (image_of with x) n) ∙ ap normal_form (sym (pairs_one (terms_of (image_of with x)))) ∙ ap (λ z. normal_form (expansion with z)) (sym e)

-- a monomial of a polynomial of degree 1 is one variable
pub one_variable : (c : ℕ) (ms : List (Monomial 4)) (i : ℕ) (m : Monomial 4) → i < length ms → m ≡ get_or ms i m
    → IsPolynomial (record { constant = c; monomials = map term_of ms }) → All (λ x. x.degree ≤ 1) ms → (term_of m).vars ≡ get_or m.vars 0 0 ∷ []
one_variable c ms i m h e form low =
    let ordered : HasOrderedVariables (term_of m) =
    subst HasOrderedVariables (get_or-map term_of ms i m (term_of m) h ∙ ap term_of (sym e))
    (form.monomials.variables i (term_of m) (let k = length-map ms (term_of {n = 4}) in omega arith)) in
    let some = ordered.0 in
    let few : m.degree ≤ 1 = subst (λ (x : Monomial 4). x.degree ≤ 1) (sym e) (low i m h) in
    let same = key_length m in
    let one : m.degree ≡ 1 = omega arith in
    let room = m.room in
    ap (λ d. take d m.vars) one ∙ take_more m.vars 0 0 (omega arith)

pub has_alone : (P : ℕ → Type 0) (xs : List ℕ) (x : ℕ) → xs ≡ x ∷ [] → All P xs → P x
has_alone P xs x e all = subst (All P) e all 0 x (omega arith)

-- ---- values

expansion_value : (with : List (Var × Content)) (v : ℕ → ℕ) (xs : List ℕ) → value_at v (expansion with xs) % 2 ^ 32 ≡ product_at (images_at with v) xs % 2 ^ 32
expansion_value with v [] = refl
expansion_value with v (x ∷ xs) =
    let im = value_at v (terms_of (image_of with x)) in
    let rest = value_at v (expansion with xs) in
    let tail = product_at (images_at with v) xs in
    ap (λ z. z % 2 ^ 32) (pairs_value v (terms_of (image_of with x)) (expansion with xs))
    ∙ sym (mul-mod_first im rest (2 ^ 32))
    ∙ ap (λ z. (z * rest) % 2 ^ 32) (terms_value v (image_of with x))
    ∙ scaled_mod (images_at with v x) rest tail (expansion_value with v xs)

substituted_value : (with : List (Var × Content)) (v : ℕ → ℕ) (t : Term) → value_at v (substituted with t) % 2 ^ 32 ≡ (t.coefficient * product_at (images_at with v) t.vars) % 2 ^ 32
substituted_value with v t =
    ap (λ z. z % 2 ^ 32) (scaled_value v (scalar_of t.coefficient) (expansion with t.vars) ∙ single t.coefficient (value_at v (expansion with t.vars)))
    ∙ scaled_mod t.coefficient (value_at v (expansion with t.vars)) (product_at (images_at with v) t.vars) (expansion_value with v t.vars)
  where
    single : (c e : ℕ) → c * 1 * e ≡ c * e
    single c e = grind arith

flat_value : (with : List (Var × Content)) (v : ℕ → ℕ) (ts : List Term) → value_at v (flat_map (substituted with) ts) % 2 ^ 32 ≡ value_at (images_at with v) ts % 2 ^ 32
flat_value with v [] = refl
flat_value with v (t ∷ ts) =
    ap (λ z. z % 2 ^ 32) (value_append v (substituted with t) (flat_map (substituted with) ts))
    ∙ sum_both (value_at v (substituted with t)) (t.coefficient * product_at (images_at with v) t.vars) (value_at v (flat_map (substituted with) ts)) (value_at (images_at with v) ts)
    (substituted_value with v t) (flat_value with v ts)

-- the value is that of the polynomial where each variable has the value of what stands for it
pub substitution_value : (with : List (Var × Content)) (p : Polynomial) (v : ℕ → ℕ) → value_of v (substitution_of with p) ≡ value_of (images_at with v) p
substitution_value with p v =
    form_value (flat_map (substituted with) (terms_of p)) v ∙ flat_value with v (terms_of p) ∙ terms_value (images_at with v) p
