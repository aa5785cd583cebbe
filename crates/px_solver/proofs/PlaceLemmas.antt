-- The places of a home.
use Rattle.std.proofs.Common.{◌≡◌, inl, inr, ℕ, zero, suc, ◌+◌, ◌<◌, ◌≤◌, List, [], ◌∷◌, length, get_or, sym, ap, subst, ◌∙◌, arith}
use Rattle.std.specs.Prelude.{Bool, true, false, cond, nat_eq, All, Contains}
use Rattle.std.proofs.lemmas.Bool.{cases_eq, eq-eqb, ne_eqb}
use Rattle.std.proofs.lemmas.List.Elements.{All-nil, All-cons, All-weaker}
use Rattle.px_solver.specs.Tables.{AreApart, places_from, places_of}
use Rattle.px_solver.proofs.SearchLemmas.{contains_more}

-- a place of the home among those from k on
abbrev IsPlace : ℕ → ℕ → List ℕ → ℕ → Type 0
IsPlace h k xs i = (j : ℕ) × (i ≡ k + j) × (j < length xs) × (get_or xs j 0 ≡ h)

further : (h k x : ℕ) (xs : List ℕ) (i : ℕ) → IsPlace h (suc k) xs i → IsPlace h k (x ∷ xs) i
further h k x xs i (j, e, l, q) = (suc j, omega arith, omega arith, q)

all_from : (h k : ℕ) (xs : List ℕ) → All (IsPlace h k xs) (places_from h k xs)
all_from h k [] = All-nil (IsPlace h k [])
all_from h k (x ∷ xs) =
    let rest = All-weaker (IsPlace h (suc k) xs) (IsPlace h k (x ∷ xs)) (further h k x xs) (places_from h (suc k) xs) (all_from h (suc k) xs) in
    elim (cases_eq x h) [
      | inl e ↦ subst (λ b. All (IsPlace h k (x ∷ xs)) (cond b (k ∷ places_from h (suc k) xs) (places_from h (suc k) xs))) (sym (eq-eqb x h e))
          (All-cons (IsPlace h k (x ∷ xs)) k (places_from h (suc k) xs) (0, omega arith, omega arith, e) rest)
      | inr n ↦ subst (λ b. All (IsPlace h k (x ∷ xs)) (cond b (k ∷ places_from h (suc k) xs) (places_from h (suc k) xs))) (sym (ne_eqb x h n)) rest
    ]

each_from : (h k : ℕ) (xs : List ℕ) (j : ℕ) → j < length xs → get_or xs j 0 ≡ h → Contains (places_from h k xs) (k + j)
each_from h k [] j l e = absurd (omega arith)
each_from h k (x ∷ xs) zero l e =
    subst (λ b. Contains (cond b (k ∷ places_from h (suc k) xs) (places_from h (suc k) xs)) (k + 0)) (sym (eq-eqb x h e)) (0, omega arith, omega arith)
each_from h k (x ∷ xs) (suc j) l e =
    let rest = each_from h (suc k) xs j (omega arith) e in
    let same : suc k + j ≡ k + suc j = omega arith in
    both (nat_eq x h) (subst (Contains (places_from h (suc k) xs)) same rest)
  where
    both : (b : Bool) → Contains (places_from h (suc k) xs) (k + suc j) → Contains (cond b (k ∷ places_from h (suc k) xs) (places_from h (suc k) xs)) (k + suc j)
    both true c = contains_more k (places_from h (suc k) xs) (k + suc j) c
    both false c = c

abbrev Rising : ℕ → List ℕ → Type 0
Rising k xs = AreApart xs × All (λ i. k ≤ i) xs

rising_more : (k : ℕ) (ps : List ℕ) → Rising (suc k) ps → Rising k (k ∷ ps)
rising_more k ps r = (apart, All-cons (λ i. k ≤ i) k ps (omega arith) (All-weaker (λ i. suc k ≤ i) (λ i. k ≤ i) (λ i l. omega arith) ps r.1))
  where
    apart : AreApart (k ∷ ps)
    apart zero zero l b = absurd (omega arith)
    apart zero (suc j) l b = let h = r.1 j 0 (omega arith) in omega arith
    apart (suc i) zero l b = absurd (omega arith)
    apart (suc i) (suc j) l b = r.0 i j (omega arith) (omega arith)

rising_same : (k : ℕ) (ps : List ℕ) → Rising (suc k) ps → Rising k ps
rising_same k ps r = (r.0, All-weaker (λ i. suc k ≤ i) (λ i. k ≤ i) (λ i l. omega arith) ps r.1)

rising_both : (b : Bool) (k : ℕ) (ps : List ℕ) → Rising (suc k) ps → Rising k (cond b (k ∷ ps) ps)
rising_both true k ps r = rising_more k ps r
rising_both false k ps r = rising_same k ps r

rising_from : (h k : ℕ) (xs : List ℕ) → Rising k (places_from h k xs)
rising_from h k [] = ((λ i j l b. absurd (omega arith)), All-nil (λ i. k ≤ i))
rising_from h k (x ∷ xs) = rising_both (nat_eq x h) k (places_from h (suc k) xs) (rising_from h (suc k) xs)

pub places_each : (h : ℕ) (xs : List ℕ) → All (λ i. (i < length xs) × (get_or xs i 0 ≡ h)) (places_of h xs)
places_each h xs = All-weaker (IsPlace h 0 xs) (λ i. (i < length xs) × (get_or xs i 0 ≡ h)) one (places_of h xs) (all_from h 0 xs)
  where
    one : (i : ℕ) → IsPlace h 0 xs i → (i < length xs) × (get_or xs i 0 ≡ h)
    one i (j, e, l, q) = let same : j ≡ i = omega arith in (omega arith, subst (λ k. get_or xs k 0 ≡ h) same q)

pub places_all : (h : ℕ) (xs : List ℕ) (i : ℕ) → i < length xs → get_or xs i 0 ≡ h → Contains (places_of h xs) i
places_all h xs i l e = let same : 0 + i ≡ i = omega arith in subst (Contains (places_of h xs)) same (each_from h 0 xs i l e)

pub places_apart : (h : ℕ) (xs : List ℕ) → AreApart (places_of h xs)
places_apart h xs = (rising_from h 0 xs).0

pub places_inside : (h n : ℕ) (xs : List ℕ) → length xs ≡ n → All (λ i. i < n) (places_of h xs)
places_inside h n xs e = All-weaker (λ i. (i < length xs) × (get_or xs i 0 ≡ h)) (λ i. i < n) (λ i p. let l = p.0 in omega arith) (places_of h xs) (places_each h xs)

pub place_home : (h : ℕ) (xs : List ℕ) (v : ℕ) → Contains (places_of h xs) v → get_or xs v 0 ≡ h
place_home h xs v (k, l, e) = let p = places_each h xs k v l in ap (λ z. get_or xs z 0) (sym e) ∙ p.1
