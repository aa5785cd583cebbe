-- What merely is there is found, where it can be decided and all values can be gone through.
use Rattle.std.proofs.Common.{◌≡◌, ◌⊎◌, inl, inr, ℕ, zero, suc, ◌+◌, ◌≤◌, Some, List, [], ◌∷◌, ◌++◌, map, slice_get, refl, sym, ap, subst, arith, le_refl, eq-or-lt_of_le}
use Rattle.std.specs.Prelude.{flat_map}
use mathlib.Core.Path.{fun_ext}
use mathlib.Core.Logic.{∥∥₁_elim, ∥∥₁_map}

-- ---- numbers

-- a search from n on comes to an end
data Ends (P : ℕ → Type 0) : ℕ → Type 0 where
  later : {n : ℕ} → (¬ P n → Ends P (suc n)) → Ends P n

module _ {P : ℕ → Type 0} where
  ends_once : (n : ℕ) (x y : Ends P n) → x ≡ y
  ends_once n (later f) (later g) = ap later (fun_ext (λ h. ends_once (suc n) (f h) (g h)))

  ends_at : (m : ℕ) → P m → (k n : ℕ) → m ≡ k + n → Ends P n
  ends_at m p zero n e = let f : m ≡ n = omega (arith, e) in later (λ h. absurd (h (subst P f p)))
  ends_at m p (suc k) n e = later (λ h. ends_at m p k (suc n) (omega (arith, e)))

  here_or_on : (n : ℕ) → Dec (P n) → (¬ P n → (m : ℕ) × P m) → (m : ℕ) × P m
  here_or_on n (yes p) on = (n, p)
  here_or_on n (no h) on = on h

  searched : ((n : ℕ) → Dec (P n)) → (n : ℕ) → Ends P n → (m : ℕ) × P m
  searched decide n (later f) = here_or_on n (decide n) (λ h. searched decide (suc n) (f h))

  first_number : ((n : ℕ) → Dec (P n)) → ∥ ((n : ℕ) × P n) ∥₁ → (n : ℕ) × P n
  first_number decide h = searched decide 0 (∥∥₁_elim h (ends_once 0) (λ (m, p). let e : m ≡ m + 0 = omega arith in ends_at m p m 0 e))

-- ---- values that can be gone through

-- P holds of some item
abbrev pub Somewhere : {A : Type 0} → (A → Type 0) → List A → Type 0
Somewhere P [] = ⊥
Somewhere P (x ∷ xs) = P x ⊎ Somewhere P xs

abbrev pub IsAmong : {A : Type 0} → A → List A → Type 0
IsAmong x xs = Somewhere (λ y. y ≡ x) xs

module _ {A : Type 0} where
  somewhere : (P : A → Type 0) (x : A) → P x → (xs : List A) → IsAmong x xs → Somewhere P xs
  somewhere P x p [] h = absurd h
  somewhere P x p (y ∷ ys) (inl e) = inl (subst P (sym e) p)
  somewhere P x p (y ∷ ys) (inr h) = inr (somewhere P x p ys h)

  picked : (P : A → Type 0) (xs : List A) → Somewhere P xs → (x : A) × P x
  picked P [] h = absurd h
  picked P (x ∷ xs) (inl p) = (x, p)
  picked P (x ∷ xs) (inr h) = picked P xs h

  somewhere_or_not : (P : A → Type 0) → ((x : A) → Dec (P x)) → (xs : List A) → Dec (Somewhere P xs)
  somewhere_or_not P decide [] = no (λ h. h)
  somewhere_or_not P decide (x ∷ xs) = by (decide x) (somewhere_or_not P decide xs)
    where
      by : Dec (P x) → Dec (Somewhere P xs) → Dec (P x ⊎ Somewhere P xs)
      by (yes p) d = yes (inl p)
      by (no h) (yes p) = yes (inr p)
      by (no h) (no g) = no (λ s. elim s [ inl p ↦ h p | inr p ↦ g p ])

  in_front : (x : A) (xs ys : List A) → IsAmong x xs → IsAmong x (xs ++ ys)
  in_front x [] ys h = absurd h
  in_front x (z ∷ zs) ys (inl e) = inl e
  in_front x (z ∷ zs) ys (inr h) = inr (in_front x zs ys h)

  behind : (x : A) (xs ys : List A) → IsAmong x ys → IsAmong x (xs ++ ys)
  behind x [] ys h = h
  behind x (z ∷ zs) ys h = inr (behind x zs ys h)

  pub among_at : (i : ℕ) (xs : List A) (x : A) → slice_get xs i ≡ Some x → IsAmong x xs
  among_at i [] x e = absurd (cc)
  among_at zero (y ∷ ys) x e = inl (cc)
  among_at (suc i) (y ∷ ys) x e = inr (among_at i ys x e)

among_map : {A B : Type 0} (f : A → B) (x : A) (xs : List A) → IsAmong x xs → IsAmong (f x) (map f xs)
among_map f x [] h = absurd h
among_map f x (y ∷ ys) (inl e) = inl (ap f e)
among_map f x (y ∷ ys) (inr h) = inr (among_map f x ys h)

-- of each of the one and each of the other
abbrev pub all_of : {A B C : Type 0} → (A → B → C) → List A → List B → List C
all_of f xs ys = flat_map (λ x. map (f x) ys) xs

pub among_all : {A B C : Type 0} (f : A → B → C) (x : A) (y : B) (xs : List A) (ys : List B) → IsAmong x xs → IsAmong y ys → IsAmong (f x y) (all_of f xs ys)
among_all f x y [] ys h g = absurd h
among_all f x y (z ∷ zs) ys (inl e) g = in_front (f x y) (map (f z) ys) (all_of f zs ys) (subst (λ w. IsAmong (f w y) (map (f z) ys)) e (among_map (f z) y ys g))
among_all f x y (z ∷ zs) ys (inr h) g = behind (f x y) (map (f z) ys) (all_of f zs ys) (among_all f x y zs ys h g)

-- more and more values, so that each is among them from some number on
pub record Counted (A : Type 0) : Type 0 where
  pub first : ℕ → List A
  pub number : A → ℕ
  pub reached : (x : A) (n : ℕ) → number x ≤ n → IsAmong x (first n)

pub found : {A : Type 0} → Counted A → (P : A → Type 0) → ((x : A) → Dec (P x)) → ∥ ((x : A) × P x) ∥₁ → (x : A) × P x
found c P decide h =
    let some : ∥ ((n : ℕ) × Somewhere P (c.first n)) ∥₁ = ∥∥₁_map h (λ (x, p). (c.number x, somewhere P x p (c.first (c.number x)) (c.reached x (c.number x) (le_refl (c.number x))))) in
    let (n, s) = first_number (λ n. somewhere_or_not P decide (c.first n)) some in
    picked P (c.first n) s

-- ---- numbers, pairs and lists

up_to : ℕ → List ℕ
up_to zero = 0 ∷ []
up_to (suc n) = suc n ∷ up_to n

among_numbers : (x n : ℕ) → x ≤ n → IsAmong x (up_to n)
unfolding up_to
among_numbers x zero l = let e : 0 ≡ x = omega (arith, l) in inl e
among_numbers x (suc n) l = elim (eq-or-lt_of_le l) [ inl e ↦ inl (sym e) | inr h ↦ inr (among_numbers x n (omega (arith, h))) ]

pub counted_numbers : Counted ℕ
counted_numbers = record { first = up_to; number = λ x. x; reached = among_numbers }

pub counted_pairs : {A B : Type 0} → Counted A → Counted B → Counted (A × B)
counted_pairs {A} {B} c d = record {
  first = λ n. all_of pair (c.first n) (d.first n);
  number = λ p. c.number p.0 + d.number p.1;
  reached = λ p n l. among_all pair p.0 p.1 (c.first n) (d.first n) (c.reached p.0 n (omega (arith, l))) (d.reached p.1 n (omega (arith, l)));
}
  where
    pair : A → B → A × B
    pair x y = (x, y)

module _ {A : Type 0} (c : Counted A) where
  cons : A → List A → List A
  cons x xs = x ∷ xs

  lists : List A → ℕ → List (List A)
  lists xs zero = [] ∷ []
  lists xs (suc n) = [] ∷ all_of cons xs (lists xs n)

  weight : List A → ℕ
  weight [] = 0
  weight (x ∷ xs) = suc (c.number x + weight xs)

  among_lists : (n : ℕ) (l : List A) (m : ℕ) → weight l ≤ m → weight l ≤ n → IsAmong l (lists (c.first n) m)
  unfolding lists weight cons
  among_lists n [] zero h g = inl refl
  among_lists n [] (suc m) h g = inl refl
  among_lists n (x ∷ xs) zero h g = let f : ⊥ = omega (arith, h) in absurd f
  among_lists n (x ∷ xs) (suc m) h g = inr (among_all cons x xs (c.first n) (lists (c.first n) m) (c.reached x n (omega (arith, g))) (among_lists n xs m (omega (arith, h)) (omega (arith, g))))

  pub counted_lists : Counted (List A)
  counted_lists = record { first = λ n. lists (c.first n) n; number = weight; reached = λ l n h. among_lists n l n h h }
