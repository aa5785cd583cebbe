-- Values of polynomials, term by term.
use Rattle.std.proofs.Common.{◌≡◌, ◌<◌, ◌≤◌, ◌+◌, ◌*◌, ◌%◌, ◌^◌, ◌++◌, ℕ, List, [], ◌∷◌, length, get_or, map, take, ap, sym, subst, ◌∙◌, arith, append_assoc, append-nil, get_or-take, length-take}
use Rattle.std.specs.Prelude.{All, flat_map, zero, suc}
use Rattle.std.proofs.lemmas.List.{take_more, get_or_default, map-append}
use Rattle.std.proofs.lemmas.List.Elements.{All-more, All-same, All-append, All-nil, All-from_recursion, recursion_from_All}
use Rattle.std.proofs.lemmas.Nat.{mul-mod_first, mul-mod_second}
use Rattle.px_terms.specs.Terms.{Term, product_at, value_at}
use Rattle.px_terms.specs.Valuations.{valuation_of, numbers_of, number_of, IsWord}
use Rattle.px_terms.specs.Monomials.{term_of}
use Rattle.px_terms.specs.declared.types.Value.{Value}
use Rattle.px_terms.specs.declared.types.Value.TheVariants.{Unwritten}
use Rattle.px_terms.specs.declared.monomial.Monomial.{Monomial}
use Rattle.px_terms.proofs.Gathering.{value_append}
use Rattle.px_terms.proofs.NormalForm.{AllHave}
use Rattle.px_terms.proofs.PolyProducts.{product-append}

-- ---- variables of a monomial

pub variable_below : (xs : List ℕ) (n i b : ℕ) → i < n → n ≤ length xs → All (λ x. x < b) (take n xs) → get_or xs i 0 < b
variable_below xs n i b h k all =
    let below = all i 0 (let e = length-take n xs in omega arith) in
    let same : get_or (take n xs) i 0 ≡ get_or xs i 0 = rw get_or-take in
    omega arith

-- a value within the list, as the valuation reads it
pub value_read : (values : List Value) (x : ℕ) (d : Value) → x < length values → get_or values x d ≡ valuation_of values x
value_read values x d h = get_or_default values x d Unwritten h

pub words_more : (values : List Value) (xs : List ℕ) (i : ℕ) (d : Value) → i < length xs → get_or xs i 0 < length values → IsWord (get_or values (get_or xs i 0) d)
    → All (λ x. IsWord (valuation_of values x)) (take i xs) → All (λ x. IsWord (valuation_of values x)) (take (i + 1) xs)
words_more values xs i d h k w all =
    All-more (λ x. IsWord (valuation_of values x)) xs i 0 h all (subst IsWord (value_read values (get_or xs i 0) d k) w)

pub product_more : (values : List Value) (xs : List ℕ) (i p w : ℕ) (d : Value) → i < length xs → get_or xs i 0 < length values → w ≡ number_of (get_or values (get_or xs i 0) d)
    → p ≡ product_at (numbers_of (valuation_of values)) (take i xs) % 2 ^ 32
    → (p * w) % 2 ^ 32 ≡ product_at (numbers_of (valuation_of values)) (take (i + 1) xs) % 2 ^ 32
product_more values xs i p w d h k e f =
    let v = numbers_of (valuation_of values) in
    let x = get_or xs i 0 in
    let g : w ≡ v x = e ∙ ap number_of (value_read values x d k) in
    ap (λ z. (z * w) % 2 ^ 32) f
    ∙ mul-mod_first (product_at v (take i xs)) w (2 ^ 32)
    ∙ ap (λ z. z % 2 ^ 32) (ap (λ z. product_at v (take i xs) * z) (g ∙ single (v x)) ∙ sym (product-append v (take i xs) (x ∷ [])) ∙ ap (product_at v) (sym (take_more xs i 0 h)))
  where
    single : (a : ℕ) → a ≡ a * 1
    single a = grind arith

-- ---- variables of terms

pub All-left : {X : Type 0} (P : X → Type 0) (xs ys : List X) → All P (xs ++ ys) → All P xs
All-left {X} P xs ys h = All-from_recursion P xs (left xs (recursion_from_All P (xs ++ ys) h))
  where
    left : (xs : List X) → Rattle.std.specs.List.AllByRecursion P (xs ++ ys) → Rattle.std.specs.List.AllByRecursion P xs
    left [] r = tt
    left (x ∷ xs) r = (r.0, left xs r.1)

pub All-right : {X : Type 0} (P : X → Type 0) (xs ys : List X) → All P (xs ++ ys) → All P ys
All-right {X} P xs ys h = All-from_recursion P ys (right xs (recursion_from_All P (xs ++ ys) h))
  where
    right : (xs : List X) → Rattle.std.specs.List.AllByRecursion P (xs ++ ys) → Rattle.std.specs.List.AllByRecursion P ys
    right [] r = r
    right (x ∷ xs) r = right xs r.1

-- what holds of each variable of terms, term by term
pub each_from_flat : (P : ℕ → Type 0) (ts : List Term) → All P (flat_map (λ t. t.vars) ts) → AllHave (All P) ts
each_from_flat P [] all = tt
each_from_flat P (t ∷ ts) all = (All-left P t.vars (flat_map (λ (u : Term). u.vars) ts) all, each_from_flat P ts (All-right P t.vars (flat_map (λ (u : Term). u.vars) ts) all))

pub flat_from_each : (P : ℕ → Type 0) (ts : List Term) → AllHave (All P) ts → All P (flat_map (λ t. t.vars) ts)
flat_from_each P [] h = All-nil P
flat_from_each P (t ∷ ts) h = All-append P t.vars (flat_map (λ (u : Term). u.vars) ts) h.0 (flat_from_each P ts h.1)

-- the terms of monomials, by their places
pub have_at : (P : List ℕ → Type 0) (ms : List (Monomial 4)) (i : ℕ) (m : Monomial 4) → i < length ms → m ≡ get_or ms i m → AllHave P (map term_of ms) → P (term_of m).vars
have_at P [] i m h e all = absurd (omega arith)
have_at P (n ∷ ms) zero m h e all = subst (λ (x : Monomial 4). P (term_of x).vars) (sym e) all.0
have_at P (n ∷ ms) (suc i) m h e all = have_at P ms i m (omega arith) e all.1

-- each variable of a monomial has what each variable of the polynomial has
pub variables_at : (P : ℕ → Type 0) (ms : List (Monomial 4)) (i : ℕ) (m : Monomial 4) (ts : List Term) → i < length ms → m ≡ get_or ms i m → map term_of ms ≡ ts
    → All P (flat_map (λ t. t.vars) ts) → All P (term_of m).vars
variables_at P ms i m ts h e f all = have_at (All P) ms i m h e (subst (AllHave (All P)) (sym f) (each_from_flat P ts all))

-- ---- sums, term by term

pub taken_more : (ms : List (Monomial 4)) (i : ℕ) (m : Monomial 4) → i < length ms → m ≡ get_or ms i m → map term_of (take (i + 1) ms) ≡ map term_of (take i ms) ++ term_of m ∷ []
taken_more ms i m h e = ap (map term_of) (take_more ms i m h ∙ ap (λ z. take i ms ++ z ∷ []) (sym e)) ∙ map-append term_of (take i ms) (m ∷ [])

flat_more : (ts : List Term) (t : Term) → flat_map (λ u. u.vars) (ts ++ t ∷ []) ≡ flat_map (λ u. u.vars) ts ++ t.vars
flat_more [] t = append-nil t.vars
flat_more (x ∷ ts) t = ap (λ z. x.vars ++ z) (flat_more ts t) ∙ sym (append_assoc x.vars (flat_map (λ (u : Term). u.vars) ts) t.vars)

pub all_words_more : (values : List Value) (ms : List (Monomial 4)) (i : ℕ) (m : Monomial 4) → i < length ms → m ≡ get_or ms i m → All (λ x. IsWord (valuation_of values x)) (term_of m).vars
    → All (λ x. IsWord (valuation_of values x)) (flat_map (λ t. t.vars) (map term_of (take i ms))) → All (λ x. IsWord (valuation_of values x)) (flat_map (λ t. t.vars) (map term_of (take (i + 1) ms)))
all_words_more values ms i m h e here all =
    let P = λ (x : ℕ). IsWord (valuation_of values x) in
    let before = map term_of (take i ms) in
    All-same P (flat_map (λ (t : Term). t.vars) (map term_of (take (i + 1) ms))) (flat_map (λ (t : Term). t.vars) before ++ (term_of m).vars)
    (ap (flat_map (λ (t : Term). t.vars)) (taken_more ms i m h e) ∙ flat_more before (term_of m))
    (All-append P (flat_map (λ (t : Term). t.vars) before) (term_of m).vars all here)

pub sum_more : (v : ℕ → ℕ) (ms : List (Monomial 4)) (i : ℕ) (m : Monomial 4) (c s p : ℕ) → i < length ms → m ≡ get_or ms i m
    → p ≡ product_at v (term_of m).vars % 2 ^ 32 → s ≡ (c + value_at v (map term_of (take i ms))) % 2 ^ 32
    → (s + m.coefficient * p % 2 ^ 32) % 2 ^ 32 ≡ (c + value_at v (map term_of (take (i + 1) ms))) % 2 ^ 32
sum_more v ms i m c s p h e f g =
    let before = map term_of (take i ms) in
    let product = product_at v (term_of m).vars in
    ap (λ z. (s + z) % 2 ^ 32) (ap (λ z. m.coefficient * z % 2 ^ 32) f ∙ mul-mod_second m.coefficient product (2 ^ 32))
    ∙ joined c s (value_at v before) (m.coefficient * product) g
    ∙ ap (λ z. (c + z) % 2 ^ 32) (sym (ap (value_at v) (taken_more ms i m h e) ∙ value_append v before (term_of m ∷ [])))
  where
    joined : (c s a x : ℕ) → s ≡ (c + a) % 2 ^ 32 → (s + x % 2 ^ 32) % 2 ^ 32 ≡ (c + (a + (x + 0))) % 2 ^ 32
    joined c s a x h = omega arith
