-- Members of lists, item by item.
use Rattle.std.proofs.Common.{◌≡◌, ◌⊎◌, inl, inr, ℕ, zero, suc, Bool, true, false, cond, nat_eq, List, [], ◌∷◌, ◌++◌, map, length, refl, sym, ap, ◌∙◌, subst, arith}
use Rattle.std.specs.Prelude.{Contains, flat_map, filter}
use Rattle.std.specs.List.{list_any}
use Rattle.std.proofs.lemmas.Bool.{eqb-true, eq-eqb, or_left, or_right, or_cases}

-- an item of the list is this one
abbrev pub Has : {A : Type 0} → List A → A → Type 0
Has [] x = ⊥
Has (y ∷ ys) x = (y ≡ x) ⊎ Has ys x

pub has_from : {A : Type 0} (xs : List A) (x : A) → Contains xs x → Has xs x
has_from [] x (k, l, e) = let f : ⊥ = omega arith in absurd f
has_from (y ∷ ys) x (zero, l, e) = inl e
has_from (y ∷ ys) x (suc k, l, e) = inr (has_from ys x (k, omega arith, e))

pub has_to : {A : Type 0} (xs : List A) (x : A) → Has xs x → Contains xs x
has_to [] x h = absurd h
has_to (y ∷ ys) x (inl e) = (zero, omega arith, e)
has_to (y ∷ ys) x (inr h) = let (k, l, e) = has_to ys x h in (suc k, omega arith, e)

pub has_left : {A : Type 0} (xs ys : List A) (x : A) → Has xs x → Has (xs ++ ys) x
has_left [] ys x h = absurd h
has_left (z ∷ xs) ys x (inl e) = inl e
has_left (z ∷ xs) ys x (inr h) = inr (has_left xs ys x h)

pub has_right : {A : Type 0} (xs ys : List A) (x : A) → Has ys x → Has (xs ++ ys) x
has_right [] ys x h = h
has_right (z ∷ xs) ys x h = inr (has_right xs ys x h)

pub has_flat : {A B : Type 0} (f : A → List B) (xs : List A) (x : A) (y : B) → Has xs x → Has (f x) y → Has (flat_map f xs) y
has_flat f [] x y h k = absurd h
has_flat f (z ∷ xs) x y (inl e) k = has_left (f z) (flat_map f xs) y (subst (λ w. Has (f w) y) (sym e) k)
has_flat f (z ∷ xs) x y (inr h) k = has_right (f z) (flat_map f xs) y (has_flat f xs x y h k)

pub append_has : {A : Type 0} (xs ys : List A) (x : A) → Has (xs ++ ys) x → Has xs x ⊎ Has ys x
append_has [] ys x h = inr h
append_has (z ∷ xs) ys x (inl e) = inl (inl e)
append_has (z ∷ xs) ys x (inr h) = elim (append_has xs ys x h) [ inl k ↦ inl (inr k) | inr k ↦ inr k ]

pub flat_has : {A B : Type 0} (f : A → List B) (xs : List A) (y : B) → Has (flat_map f xs) y → (x : A) × Has xs x × Has (f x) y
flat_has f [] y h = absurd h
flat_has f (z ∷ xs) y h = elim (append_has (f z) (flat_map f xs) y h) [ inl k ↦ (z, inl refl, k) | inr k ↦ let (x, m, own) = flat_has f xs y k in (x, inr m, own) ]

pub has_map : {A B : Type 0} (f : A → B) (xs : List A) (y : B) → Has (map f xs) y → (x : A) × Has xs x × (f x ≡ y)
has_map f [] y h = absurd h
has_map f (z ∷ xs) y (inl e) = (z, inl refl, e)
has_map f (z ∷ xs) y (inr h) = let (x, m, e) = has_map f xs y h in (x, inr m, e)

pub has_filter : {A : Type 0} (test : A → Bool) (xs : List A) (x : A) → Has (filter test xs) x → Has xs x × (test x ≡ true)
has_filter test [] x h = absurd h
has_filter {A} test (z ∷ xs) x h = by (test z) refl h (has_filter test xs x)
  where
    by : (b : Bool) → test z ≡ b → Has (cond b (z ∷ filter test xs) (filter test xs)) x → (Has (filter test xs) x → Has xs x × (test x ≡ true)) → Has (z ∷ xs) x × (test x ≡ true)
    by true is (inl e) rest = (inl e, subst (λ w. test w ≡ true) e is)
    by true is (inr k) rest = let r = rest k in (inr r.0, r.1)
    by false is k rest = let r = rest k in (inr r.0, r.1)

pub in_filter : {A : Type 0} (test : A → Bool) (xs : List A) (x : A) → Has xs x → test x ≡ true → Has (filter test xs) x
in_filter test [] x h e = absurd h
in_filter {A} test (z ∷ xs) x h e = by (test z) refl h (λ k. in_filter test xs x k e)
  where
    not_both : true ≡ false → ⊥
    not_both f = cc

    by : (b : Bool) → test z ≡ b → Has (z ∷ xs) x → (Has xs x → Has (filter test xs) x) → Has (cond b (z ∷ filter test xs) (filter test xs)) x
    by true is (inl f) rest = inl f
    by true is (inr k) rest = inr (rest k)
    by false is (inl f) rest = absurd (not_both (sym e ∙ sym (ap test f) ∙ is))
    by false is (inr k) rest = rest k

-- ---- members that pass a test

pub any_has : {A : Type 0} (test : A → Bool) (xs : List A) → list_any test xs ≡ true → (x : A) × Has xs x × (test x ≡ true)
any_has test [] e = absurd (none e)
  where
    none : false ≡ true → ⊥
    none f = cc
any_has test (z ∷ xs) e = elim (or_cases (test z) (list_any test xs) e) [
  | inl h ↦ (z, inl refl, h)
  | inr h ↦ let (x, m, p) = any_has test xs h in (x, inr m, p)
]

pub has_any : {A : Type 0} (test : A → Bool) (xs : List A) (x : A) → Has xs x → test x ≡ true → list_any test xs ≡ true
has_any test [] x h e = absurd h
has_any test (z ∷ xs) x (inl f) e = or_left (test z) (list_any test xs) (ap test f ∙ e)
has_any test (z ∷ xs) x (inr h) e = or_right (test z) (list_any test xs) (has_any test xs x h e)

pub equal_has : (y : ℕ) (xs : List ℕ) → list_any (nat_eq y) xs ≡ true → Has xs y
equal_has y xs e = let (x, m, is) = any_has (nat_eq y) xs e in subst (Has xs) (sym (eqb-true y x is)) m

pub has_equal : (y : ℕ) (xs : List ℕ) → Has xs y → list_any (nat_eq y) xs ≡ true
has_equal y xs h = has_any (nat_eq y) xs y h (eq-eqb y y refl)

-- ---- a list without one of its members

pub without : {A : Type 0} (xs : List A) (b : A) → Has xs b → List A
without [] b h = []
without (x ∷ xs) b (inl e) = xs
without (x ∷ xs) b (inr h) = x ∷ without xs b h

pub without_length : {A : Type 0} (xs : List A) (b : A) (h : Has xs b) → suc (length (without xs b h)) ≡ length xs
unfolding without
without_length [] b h = absurd h
without_length (x ∷ xs) b (inl e) = refl
without_length (x ∷ xs) b (inr h) = ap suc (without_length xs b h)

pub has_without : {A : Type 0} (xs : List A) (b : A) (h : Has xs b) (a : A) → Has xs a → (a ≡ b) ⊎ Has (without xs b h) a
unfolding without
has_without [] b h a k = absurd h
has_without (x ∷ xs) b (inl e) a (inl f) = inl (sym f ∙ e)
has_without (x ∷ xs) b (inl e) a (inr k) = inr k
has_without (x ∷ xs) b (inr h) a (inl f) = inr (inl f)
has_without (x ∷ xs) b (inr h) a (inr k) = elim (has_without xs b h a k) [ inl e ↦ inl e | inr m ↦ inr (inr m) ]

pub without_has : {A : Type 0} (xs : List A) (b : A) (h : Has xs b) (a : A) → Has (without xs b h) a → Has xs a
unfolding without
without_has [] b h a k = absurd h
without_has (x ∷ xs) b (inl e) a k = inr k
without_has (x ∷ xs) b (inr h) a (inl f) = inl f
without_has (x ∷ xs) b (inr h) a (inr k) = inr (without_has xs b h a k)
