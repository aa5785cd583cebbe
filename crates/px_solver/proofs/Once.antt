-- What is there at most once: selections, counts, lists that rise, first assignments. And what may be
-- concluded of numbers from facts that aren't known to hold or not.
use Rattle.std.proofs.Common.{◌≡◌, ◌≢◌, ◌⊎◌, inl, inr, ℕ, zero, suc, ◌+◌, ◌<◌, ◌≤◌, List, [], ◌∷◌, length, get_or, refl, sym, ap, ap₂, subst, ◌∙◌, arith}
use Rattle.std.specs.Prelude.{Contains, slice_index}
use Rattle.px_terms.specs.declared.conjuncts.Conj.{Conj}
use Rattle.px_solver.specs.Components.{Selects}
use Rattle.px_solver.specs.Assignments.{Before}
use Rattle.px_solver.specs.Models.{Counts}

-- ---- numbers

-- equal numbers are equal where they can't be unequal
pub stable : (a b : ℕ) → ¬ ¬ (a ≡ b) → a ≡ b
stable zero zero h = refl
stable zero (suc b) h = absurd (h (λ e. cc))
stable (suc a) zero h = absurd (h (λ e. cc))
stable (suc a) (suc b) h = ap suc (stable a b (λ n. h (λ e. n (omega arith))))

pub equal_or_not : (a b : ℕ) → (a ≡ b) ⊎ (a ≢ b)
equal_or_not zero zero = inl refl
equal_or_not zero (suc b) = inr (λ e. cc)
equal_or_not (suc a) zero = inr (λ e. cc)
equal_or_not (suc a) (suc b) = next (equal_or_not a b)
  where
    next : (a ≡ b) ⊎ (a ≢ b) → (suc a ≡ suc b) ⊎ (suc a ≢ suc b)
    next (inl e) = inl (ap suc e)
    next (inr n) = inr (λ e. n (omega arith))

-- a number is less than another, the same or greater
pub data Compared (a b : ℕ) : Type 0 where
  less : a < b → Compared a b
  same : a ≡ b → Compared a b
  more : b < a → Compared a b

pub compared : (a b : ℕ) → Compared a b
compared zero zero = same refl
compared zero (suc b) = less (omega arith)
compared (suc a) zero = more (omega arith)
compared (suc a) (suc b) = next (compared a b)
  where
    next : {a b : ℕ} → Compared a b → Compared (suc a) (suc b)
    next (less l) = less (omega arith)
    next (same e) = same (ap suc e)
    next (more l) = more (omega arith)

-- the least number of which P holds
pub record Least (P : ℕ → Type 0) : Type 0 where
  pub number : ℕ
  pub holds : P number
  pub lower : (k : ℕ) → k < number → ¬ P k

-- where P holds of some number, it can't be that there is no least one
module _ (P : ℕ → Type 0) where
  none_below : ¬ Least P → (n k : ℕ) → k < n → ¬ P k
  none_below h zero k l p = absurd (omega arith)
  none_below h (suc n) k l p = h (record { number = k; holds = p; lower = λ j m q. none_below h n j (omega arith) q })

  pub some_least : (n : ℕ) → P n → ¬ ¬ Least P
  some_least n p h = none_below h (suc n) n (omega arith) p

-- ---- selections and counts

pub select_once : (P : Conj → Type 0) (cs us vs : List Conj) → Selects P cs us → Selects P cs vs → us ≡ vs
select_once P [] us vs h k = h ∙ sym k
select_once P (c ∷ cs) us vs (inl (p, (us', e, h))) (inl (q, (vs', f, k))) = e ∙ ap (λ z. c ∷ z) (select_once P cs us' vs' h k) ∙ sym f
select_once P (c ∷ cs) us vs (inl (p, (us', e, h))) (inr (q, k)) = absurd (q p)
select_once P (c ∷ cs) us vs (inr (p, h)) (inl (q, (vs', f, k))) = absurd (p q)
select_once P (c ∷ cs) us vs (inr (p, h)) (inr (q, k)) = select_once P cs us vs h k

pub count_once : (P : ℕ → Type 0) (n a b : ℕ) → Counts P n a → Counts P n b → a ≡ b
count_once P zero a b h k = h ∙ sym k
count_once P (suc n) a b (inl (p, (i, e, h))) (inl (q, (j, f, k))) = e ∙ ap (λ z. z + 1) (count_once P n i j h k) ∙ sym f
count_once P (suc n) a b (inl (p, (i, e, h))) (inr (q, k)) = absurd (q p)
count_once P (suc n) a b (inr (p, h)) (inl (q, (j, f, k))) = absurd (p q)
count_once P (suc n) a b (inr (p, h)) (inr (q, k)) = count_once P n a b h k

-- ---- lists that rise

abbrev Rises : List ℕ → Type 0
Rises xs = (i j : ℕ) → i < j → j < length xs → slice_index xs i < slice_index xs j

tail_rises : (x : ℕ) (xs : List ℕ) → Rises (x ∷ xs) → Rises xs
tail_rises x xs r i j l m = r (suc i) (suc j) (omega arith) (omega arith)

inside : (xs : List ℕ) (k d z : ℕ) → k < length xs → get_or xs k d ≡ z → slice_index xs k ≡ z
inside [] k d z l e = absurd (omega arith)
inside (x ∷ xs) zero d z l e = e
inside (x ∷ xs) (suc k) d z l e = inside xs k d z (omega arith) e

-- what is in a list is the first, or greater and in the tail
in_list : (x : ℕ) (xs : List ℕ) → Rises (x ∷ xs) → (z : ℕ) → Contains (x ∷ xs) z → (x ≡ z) ⊎ ((x < z) × Contains xs z)
in_list x xs r z (zero, l, e) = inl e
in_list x xs r z (suc k, l, e) = inr (subst (λ y. x < y) (inside xs k z z (omega arith) e) (r 0 (suc k) (omega arith) l), (k, (let m : k < length xs = omega arith in m), e))

in_tail : (x : ℕ) (xs : List ℕ) → Rises (x ∷ xs) → (z : ℕ) → x < z → Contains (x ∷ xs) z → Contains xs z
in_tail x xs r z l c = by (in_list x xs r z c)
  where
    by : (x ≡ z) ⊎ ((x < z) × Contains xs z) → Contains xs z
    by (inl e) = absurd (omega arith)
    by (inr h) = h.1

above : (x : ℕ) (xs : List ℕ) → Rises (x ∷ xs) → (z : ℕ) → Contains xs z → x < z
above x xs r z (k, l, e) = subst (λ y. x < y) (inside xs k z z l e) (r 0 (suc k) (omega arith) (omega arith))

first_in : (x : ℕ) (xs : List ℕ) → Contains (x ∷ xs) x
first_in x xs = (0, (let l : 0 < suc (length xs) = omega arith in l), refl)

later_in : (x : ℕ) (xs : List ℕ) (z : ℕ) → Contains xs z → Contains (x ∷ xs) z
later_in x xs z (k, l, e) = (suc k, (let m : suc k < suc (length xs) = omega arith in m), e)

at_most_first : (x : ℕ) (xs : List ℕ) → Rises (x ∷ xs) → (z : ℕ) → Contains (x ∷ xs) z → x ≤ z
at_most_first x xs r z c = by (in_list x xs r z c)
  where
    by : (x ≡ z) ⊎ ((x < z) × Contains xs z) → x ≤ z
    by (inl e) = omega arith
    by (inr h) = let l = h.0 in omega arith

-- lists that rise are one where they have the same numbers
pub rises_once : (xs ys : List ℕ) → Rises xs → Rises ys → ((z : ℕ) → Contains xs z → Contains ys z) → ((z : ℕ) → Contains ys z → Contains xs z) → xs ≡ ys
rises_once [] [] r s f g = refl
rises_once [] (y ∷ ys) r s f g = none (g y (first_in y ys))
  where
    none : {A : Type 0} → Contains [] y → A
    none (k, l, e) = absurd (omega arith)
rises_once (x ∷ xs) [] r s f g = none (f x (first_in x xs))
  where
    none : {A : Type 0} → Contains [] x → A
    none (k, l, e) = absurd (omega arith)
rises_once (x ∷ xs) (y ∷ ys) r s f g =
    let a = at_most_first y ys s x (f x (first_in x xs)) in
    let b = at_most_first x xs r y (g y (first_in y ys)) in
    let e : x ≡ y = omega arith in
    ap₂ ◌∷◌ e (rises_once xs ys (tail_rises x xs r) (tail_rises y ys s)
    (λ z c. let l = above x xs r z c in in_tail y ys s z (omega arith) (f z (later_in x xs z c)))
    (λ z c. let l = above y ys s z c in in_tail x xs r z (omega arith) (g z (later_in y ys z c))))

-- ---- assignments

-- of two assignments to the same members one is before the other, or they are one
pub data Ordered (ks js : List ℕ) : Type 0 where
  earlier : Before ks js → Ordered ks js
  equal : ks ≡ js → Ordered ks js
  later : Before js ks → Ordered ks js

pub ordered : (ks js : List ℕ) → length ks ≡ length js → Ordered ks js
ordered [] [] e = equal refl
ordered [] (j ∷ js) e = absurd (omega arith)
ordered (k ∷ ks) [] e = absurd (omega arith)
ordered (k ∷ ks) (j ∷ js) e = by (compared k j) (ordered ks js (omega arith))
  where
    next : k ≡ j → Ordered ks js → Ordered (k ∷ ks) (j ∷ js)
    next f (earlier b) = earlier (inr (f, b))
    next f (equal g) = equal (ap₂ ◌∷◌ f g)
    next f (later b) = later (inr (sym f, b))

    by : Compared k j → Ordered ks js → Ordered (k ∷ ks) (j ∷ js)
    by (less l) o = earlier (inl l)
    by (same f) o = next f o
    by (more l) o = later (inl l)
