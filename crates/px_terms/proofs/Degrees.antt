-- Degrees of monomials.
use Rattle.std.proofs.Common.{◌≡◌, ◌<◌, ◌≤◌, ◌+◌, ℕ, List, [], ◌∷◌, length, get_or, map, take, inr, ap, sym, ◌∙◌, subst, arith, length-take}
use Rattle.std.specs.Prelude.{All, slice_index_or}
use Rattle.std.proofs.lemmas.List.{take_all, length-map, get_or-map}
use Rattle.std.proofs.lemmas.List.Elements.{All-more, All-weaker, All-same, All-map, All-from_recursion, recursion_from_All}
use Rattle.px_terms.specs.Terms.{Term}
use Rattle.px_terms.specs.Polynomials.{IsWithinLimits, IsTooLong}
use Rattle.px_terms.specs.Monomials.{term_of}
use Rattle.px_terms.specs.declared.monomial.Monomial.{Monomial}

pub degree_step : {n : ℕ} (ms : List (Monomial n)) (i : ℕ) (m : Monomial n) (d e : ℕ) → i < length ms → m ≡ get_or ms i m → d ≤ e → m.degree ≤ e
    → All (λ x. x.degree ≤ d) (take i ms) → All (λ x. x.degree ≤ e) (take (i + 1) ms)
degree_step {n} ms i m d e h is low here all =
    All-more (λ (x : Monomial n). x.degree ≤ e) ms i m h
    (All-weaker (λ (x : Monomial n). x.degree ≤ d) (λ (x : Monomial n). x.degree ≤ e) (λ x p. omega arith) (take i ms) all)
    (subst (λ (x : Monomial n). x.degree ≤ e) is here)

pub degree_end : {n : ℕ} (ms : List (Monomial n)) (i d : ℕ) → length ms ≤ i → All (λ x. x.degree ≤ d) (take i ms) → All (λ x. x.degree ≤ d) ms
degree_end {n} ms i d h all = All-same (λ (x : Monomial n). x.degree ≤ d) ms (take i ms) (sym (take_all i ms h)) all

-- a word leaves room for each monomial
pub scalar_room : {n : ℕ} (ms : List (Monomial n)) (d : ℕ) → d ≡ 0 → All (λ x. d + x.degree ≤ n) ms
scalar_room ms d e k m h = let f = (slice_index_or ms k m).few in omega arith

-- one of the monomials that leave room for all others
pub room_for : {n : ℕ} (a b : List (Monomial n)) (i : ℕ) (s : Monomial n) → i < length a → s ≡ get_or a i s
    → All (λ x. All (λ y. x.degree + y.degree ≤ n) b) a → All (λ y. s.degree + y.degree ≤ n) b
room_for {n} a b i s h e room = subst (λ (x : Monomial n). All (λ y. x.degree + y.degree ≤ n) b) (sym e) (room i s h)

-- no monomial has more variables than there is room for
pub short_keys : {n : ℕ} (ms : List (Monomial n)) → All (λ t. length t.vars ≤ n) (map term_of ms)
short_keys {n} ms =
    All-map (λ (t : Term). length t.vars ≤ n) term_of ms
    (λ k m h. let f = (slice_index_or ms k m).few in let e = length-take (slice_index_or ms k m).degree (slice_index_or ms k m).vars in omega arith)

pub few_short : (c : ℕ) (ms : List (Monomial 4)) → length ms ≤ 16 → IsWithinLimits (record { constant = c; monomials = map term_of ms })
few_short c ms h = record { monomials = let e = length-map ms term_of in omega arith; degrees = short_keys ms }

pub key_length : {n : ℕ} (m : Monomial n) → length (term_of m).vars ≡ m.degree
key_length m = let f = m.few in let r = m.room in let e = length-take m.degree m.vars in omega arith

-- a monomial of too high a degree
pub too_high : {n : ℕ} (c : ℕ) (ms : List (Monomial n)) (i : ℕ) (m : Monomial n) → i < length ms → m ≡ get_or ms i m → 4 < m.degree
    → IsTooLong (record { constant = c; monomials = map term_of ms })
too_high {n} c ms i m h e d =
    inr (i, term_of m, (let k = length-map ms (term_of {n = n}) in omega arith), (get_or-map term_of ms i m (term_of m) h ∙ ap term_of (sym e)), (let k = key_length m in omega arith))

-- monomials with the same terms have the same degrees
pub same_degrees : {n k : ℕ} (d : ℕ) (ms : List (Monomial n)) (ns : List (Monomial k)) → map term_of ns ≡ map term_of ms → All (λ m. m.degree ≤ d) ms → All (λ m. m.degree ≤ d) ns
same_degrees {n} {k} d ms ns e all =
    All-from_recursion (λ (m : Monomial k). m.degree ≤ d) ns (each ms ns e (recursion_from_All (λ (m : Monomial n). m.degree ≤ d) ms all))
  where
    each : (ms : List (Monomial n)) (ns : List (Monomial k)) → map term_of ns ≡ map term_of ms
        → Rattle.std.specs.List.AllByRecursion (λ (m : Monomial n). m.degree ≤ d) ms → Rattle.std.specs.List.AllByRecursion (λ (m : Monomial k). m.degree ≤ d) ns
    each [] [] e h = tt
    each [] (y ∷ ys) e h = cc
    each (x ∷ xs) [] e h = cc
    each (x ∷ xs) (y ∷ ys) e h =
        let first : (term_of y).vars ≡ (term_of x).vars = ap (λ (t : Term). t.vars) (head e) in
        let s = key_length y in
        let t = key_length x in
        let u = ap length first in
        let l = h.0 in
        (omega arith, each xs ys (tail e) h.1)
      where
        head : {t u : Term} {ts us : List Term} → t ∷ ts ≡ u ∷ us → t ≡ u
        head e = cc

        tail : {t u : Term} {ts us : List Term} → t ∷ ts ≡ u ∷ us → ts ≡ us
        tail e = cc

-- monomials of at most so many variables
pub all_few : {n : ℕ} (ms : List (Monomial n)) → All (λ m. m.degree ≤ n) ms
all_few ms k m h = (slice_index_or ms k m).few

-- two lists of monomials of degree at most 4 leave room for 8 variables
pub wide_room : (a b : List (Monomial 8)) → All (λ m. m.degree ≤ 4) a → All (λ m. m.degree ≤ 4) b → All (λ s. All (λ m. s.degree + m.degree ≤ 8) b) a
wide_room a b p q k s h j m l = let x = p k s h in let y = q j m l in omega arith

pub degrees_room : (a b : List (Monomial 4)) (d e : ℕ) → All (λ m. m.degree ≤ d) a → All (λ m. m.degree ≤ e) b → d + e ≤ 4 → All (λ s. All (λ m. s.degree + m.degree ≤ 4) b) a
degrees_room a b d e p q r k s h j m l = let x = p k s h in let y = q j m l in omega arith
