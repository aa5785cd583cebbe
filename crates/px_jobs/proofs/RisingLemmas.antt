-- Lists in the order of their numbers.
use Rattle.std.proofs.Common.{◌≡◌, ℕ, zero, suc, ◌<◌, List, [], ◌∷◌, length, refl, sym, ap, ◌∙◌, subst, inl, inr, arith, AllPairs, Contains}
use Rattle.std.specs.Prelude.{◌⊎◌}

-- ---- numbers

abbrev pub Has : List ℕ → ℕ → Type 0
Has [] n = ⊥
Has (x ∷ xs) n = (x ≡ n) ⊎ Has xs n

abbrev pub Rises : List ℕ → Type 0
Rises [] = Unit {0}
Rises (x ∷ xs) = ((n : ℕ) → Has xs n → x < n) × Rises xs

least : (x y : ℕ) (xs ys : List ℕ) → Rises (x ∷ xs) → Rises (y ∷ ys) → Has (y ∷ ys) x → Has (x ∷ xs) y → x ≡ y
least x y xs ys r s (inl e) k = sym e
least x y xs ys r s (inr i) (inl e) = e
least x y xs ys r s (inr i) (inr j) = let p = r.0 y j in let q = s.0 x i in omega (arith, p, q)

rest_has : (x y : ℕ) (xs ys : List ℕ) → x ≡ y → Rises (x ∷ xs) → ((n : ℕ) → Has (x ∷ xs) n → Has (y ∷ ys) n) → (n : ℕ) → Has xs n → Has ys n
rest_has x y xs ys e r h n i = by (h n (inr i))
  where
    by : Has (y ∷ ys) n → Has ys n
    by (inl d) = let l = r.0 n i in let z : ⊥ = omega (arith, l, e, d) in absurd z
    by (inr j) = j

-- rising lists of the same numbers are the same
pub same_rising : (xs ys : List ℕ) → Rises xs → Rises ys → ((n : ℕ) → Has xs n → Has ys n) → ((n : ℕ) → Has ys n → Has xs n) → xs ≡ ys
same_rising [] [] r s h k = refl
same_rising [] (y ∷ ys) r s h k = absurd (k y (inl refl))
same_rising (x ∷ xs) [] r s h k = absurd (h x (inl refl))
same_rising (x ∷ xs) (y ∷ ys) r s h k =
    let e : x ≡ y = least x y xs ys r s (h x (inl refl)) (k y (inl refl)) in
    ap (λ z. z ∷ xs) e ∙ ap (λ zs. y ∷ zs) (same_rising xs ys r.1 s.1 (rest_has x y xs ys e r h) (rest_has y x ys xs (sym e) s k))

-- ---- by places

pub has_from : (xs : List ℕ) (n : ℕ) → Contains xs n → Has xs n
has_from [] n (k, l, e) = let m : ⊥ = omega arith in absurd m
has_from (x ∷ xs) n (zero, l, e) = inl e
has_from (x ∷ xs) n (suc k, l, e) = inr (has_from xs n (k, (let m : k < length xs = omega arith in m), e))

pub has_to : (xs : List ℕ) (n : ℕ) → Has xs n → Contains xs n
has_to [] n h = absurd h
has_to (x ∷ xs) n (inl e) = (0, (let m : 0 < suc (length xs) = omega arith in m), e)
has_to (x ∷ xs) n (inr h) = let (k, l, e) = has_to xs n h in (suc k, (let m : suc k < suc (length xs) = omega arith in m), e)

pub rises_from : (xs : List ℕ) → AllPairs (λ a b. a < b) xs → Rises xs
rises_from [] h = tt
rises_from (x ∷ xs) h = (
  λ n i. above n (has_to xs n i),
  rises_from xs (λ i k d l m. h (suc i) (suc k) d (let p : suc i < suc k = omega arith in p) (let q : suc k < suc (length xs) = omega arith in q)),
)
  where
    above : (n : ℕ) → Contains xs n → x < n
    above n (k, l, e) = subst (λ z. x < z) e (h 0 (suc k) n (let p : 0 < suc k = omega arith in p) (let q : suc k < suc (length xs) = omega arith in q))
