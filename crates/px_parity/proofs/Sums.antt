-- Rows and the sums that they stand for.
use Rattle.std.proofs.Common.{◌≡◌, ◌≢◌, inl, inr, ℕ, suc, ◌+◌, ◌*◌, ◌%◌, ◌<◌, ◌≤◌, List, [], ◌∷◌, ◌++◌, length, get_or, set, take, map, Bool, true, false, not, nat_eq, refl, sym, ap, ap₂, subst, ◌∙◌, arith}
use Rattle.std.proofs.lemmas.Bool.{cases_eq}
use Rattle.std.proofs.lemmas.List.{take_more, take_all, map-append, length-map, get_or-map}
use Rattle.std.specs.Prelude.{All}
use Rattle.std.proofs.lemmas.List.Elements.{All-map}
use Rattle.std.proofs.lemmas.Nat.{mul-mod_first}
use Rattle.px_terms.specs.Terms.{Term, value_at, product_at}
use Rattle.px_terms.specs.Monomials.{term_of}
use Rattle.px_terms.specs.declared.monomial.Monomial.{Monomial}
use Rattle.px_parity.specs.Bits.{bit_of, plus, parity}
use Rattle.px_parity.specs.Equations.{odd, columns, column_of}
use Rattle.px_parity.proofs.Parities.{flipped_parity, plus_false, no_parity}

-- ---- odd and even numbers

pub odd_one : (n : ℕ) → n % 2 ≡ 1 → odd n ≡ true
odd_one n e = ap (λ m. nat_eq m 1) e

pub odd_zero : (n : ℕ) → n % 2 ≡ 0 → odd n ≡ false
odd_zero n e = ap (λ m. nat_eq m 1) e

pub even_not_odd : (n : ℕ) → odd n ≡ false → n % 2 ≡ 0
even_not_odd n e = elim (cases_eq (n % 2) 0) [
  | inl f ↦ f
  | inr d ↦ (let f : n % 2 ≡ 1 = omega arith in let g = sym (odd_one n f) ∙ e in absurd cc)
]

odd_sum : (a b : ℕ) → odd (a + b) ≡ plus (odd a) (odd b)
odd_sum a b = elim (cases_eq (a % 2) 0) [
  | inl e ↦ elim (cases_eq (b % 2) 0) [
    | inl f ↦ odd_zero (a + b) (omega arith) ∙ ap₂ plus (sym (odd_zero a e)) (sym (odd_zero b f))
    | inr f ↦ (let g : b % 2 ≡ 1 = omega arith in odd_one (a + b) (omega arith) ∙ ap₂ plus (sym (odd_zero a e)) (sym (odd_one b g)))
  ]
  | inr d ↦ (let e : a % 2 ≡ 1 = omega arith in elim (cases_eq (b % 2) 0) [
    | inl f ↦ odd_one (a + b) (omega arith) ∙ ap₂ plus (sym (odd_one a e)) (sym (odd_zero b f))
    | inr f ↦ (let g : b % 2 ≡ 1 = omega arith in odd_zero (a + b) (omega arith) ∙ ap₂ plus (sym (odd_one a e)) (sym (odd_one b g)))
  ])
]

-- an odd factor doesn't matter, and an even one leaves nothing
odd_factor : (k m : ℕ) → k % 2 ≡ 1 → odd (k * m) ≡ odd m
odd_factor k m e = ap (λ n. nat_eq n 1) (sym (mul-mod_first k m 2) ∙ ap (λ j. (j * m) % 2) e ∙ plain m)
  where
    plain : (m : ℕ) → (1 * m) % 2 ≡ m % 2
    plain m = omega arith

even_factor : (k m : ℕ) → k % 2 ≡ 0 → odd (k * m) ≡ false
even_factor k m e = ap (λ n. nat_eq n 1) (sym (mul-mod_first k m 2) ∙ ap (λ j. (j * m) % 2) e ∙ plain m)
  where
    plain : (m : ℕ) → (0 * m) % 2 ≡ 0
    plain m = omega arith

-- ---- one term

of_column : (v : ℕ → ℕ) (xs : List ℕ) → length xs ≤ 1 → odd (product_at v xs) ≡ columns v (column_of xs)
of_column v [] l = refl
of_column v (x ∷ []) l = ap odd (plain (v x)) ∙ ap (columns v) (next x)
  where
    plain : (n : ℕ) → n * 1 ≡ n
    plain n = omega arith

    next : (x : ℕ) → suc x ≡ x + 1
    next x = omega arith
of_column v (x ∷ y ∷ ys) l = absurd (omega arith)

pub added : (row new : List Bool) (k at : ℕ) (xs : List ℕ) → length xs ≤ 1 → k % 2 ≡ 1 → at ≡ column_of xs → at < length row
    → new ≡ set row at (not (bit_of row at)) → (v : ℕ → ℕ) → parity (columns v) new ≡ plus (parity (columns v) row) (odd (k * product_at v xs))
added row new k at xs l o e inside is v =
    ap (parity (columns v)) is ∙ flipped_parity (columns v) row at inside
    ∙ ap (plus (parity (columns v) row)) (ap (columns v) e ∙ sym (of_column v xs l) ∙ sym (odd_factor k (product_at v xs) o))

pub nothing_added : (row : List Bool) (k : ℕ) (xs : List ℕ) → k % 2 ≢ 1 → (v : ℕ → ℕ) → parity (columns v) row ≡ plus (parity (columns v) row) (odd (k * product_at v xs))
nothing_added row k xs d v =
    let e : k % 2 ≡ 0 = omega arith in
    sym (plus_false (parity (columns v) row)) ∙ ap (plus (parity (columns v) row)) (sym (even_factor k (product_at v xs) e))

pub constant_added : (row new : List Bool) (c : ℕ) → ((k : ℕ) → bit_of row k ≡ false) → 0 < length row → c % 2 ≢ 0
    → new ≡ set row 0 (not (bit_of row 0)) → (v : ℕ → ℕ) → parity (columns v) new ≡ odd c
constant_added row new c none some d is v =
    let e : c % 2 ≡ 1 = omega arith in
    ap (parity (columns v)) is ∙ flipped_parity (columns v) row 0 some ∙ ap (λ p. plus p true) (no_parity (columns v) row none) ∙ sym (odd_one c e)

pub no_constant : (row : List Bool) (c : ℕ) → ((k : ℕ) → bit_of row k ≡ false) → c % 2 ≡ 0 → (v : ℕ → ℕ) → parity (columns v) row ≡ odd c
no_constant row c none e v = no_parity (columns v) row none ∙ sym (odd_zero c e)

-- ---- all terms

-- what holds of all terms holds of a monomial's
pub at_term : (P : Term → Type 0) (ms : List (Monomial 4)) (ts : List Term) (i : ℕ) (m : Monomial 4) → map (term_of {n = 4}) ms ≡ ts → All P ts → i < length ms → m ≡ get_or ms i m → P (term_of m)
at_term P ms ts i m f h l g =
    let size : length (map (term_of {n = 4}) ms) ≡ length ms = length-map ms (term_of {n = 4}) in
    let same = ap length f in
    let e : get_or ts i (term_of m) ≡ term_of m = ap (λ z. get_or z i (term_of m)) (sym f) ∙ get_or-map term_of ms i m (term_of m) l ∙ ap term_of (sym g) in
    subst P e (h i (term_of m) (omega arith))

pub all_terms : (P : Term → Type 0) (ms : List (Monomial 4)) (ts : List Term) (i : ℕ) → map (term_of {n = 4}) ms ≡ ts → length ms ≤ i → All (λ (m : Monomial 4). P (term_of m)) (take i ms) → All P ts
all_terms P ms ts i f l h = subst (All P) f (All-map P (term_of {n = 4}) ms (subst (All (λ (m : Monomial 4). P (term_of m))) (take_all i ms l) h))

value_more : (v : ℕ → ℕ) (ts : List Term) (t : Term) → value_at v (ts ++ t ∷ []) ≡ value_at v ts + t.coefficient * product_at v t.vars
value_more v [] t = omega arith
value_more v (s ∷ ts) t = let e = value_more v ts t in omega arith

pub says_more : (v : ℕ → ℕ) (ms : List (Monomial 4)) (i : ℕ) (m : Monomial 4) (c : ℕ) (old new : Bool) → i < length ms → m ≡ get_or ms i m
    → old ≡ odd (c + value_at v (map (term_of {n = 4}) (take i ms))) → new ≡ plus old (odd (m.coefficient * product_at v (term_of m).vars))
    → new ≡ odd (c + value_at v (map (term_of {n = 4}) (take (i + 1) ms)))
says_more v ms i m c old new l e g h =
    let ts = map (term_of {n = 4}) (take i ms) in
    let t = term_of m in
    let f : map (term_of {n = 4}) (take (i + 1) ms) ≡ ts ++ t ∷ [] = ap (map (term_of {n = 4})) (take_more ms i m l ∙ ap (λ z. take i ms ++ z ∷ []) (sym e)) ∙ map-append (term_of {n = 4}) (take i ms) (m ∷ []) in
    let k : c + value_at v ts + t.coefficient * product_at v t.vars ≡ c + value_at v (ts ++ t ∷ []) = (let w = value_more v ts t in omega arith) in
    h ∙ ap (λ b. plus b (odd (t.coefficient * product_at v t.vars))) g ∙ sym (odd_sum (c + value_at v ts) (t.coefficient * product_at v t.vars)) ∙ ap odd k ∙ ap (λ z. odd (c + value_at v z)) (sym f)
