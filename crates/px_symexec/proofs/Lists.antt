-- Items of lists, and lists of chosen items.
use Rattle.std.proofs.Common.{◌≡◌, zero, suc, ◌<◌, List, [], ◌∷◌, ◌++◌, length, refl, sym, ap, subst, arith, inl, inr}
use Rattle.std.specs.Prelude.{◌⊎◌, Contains, flat_map}
use Rattle.px_entry.proofs.Lists.{Each, each_append}
use Rattle.px_symexec.specs.Tables.{Selects}

-- ---- items

-- x is an item
abbrev pub IsIn : {A : Type 0} → A → List A → Type 0
IsIn x [] = ⊥
IsIn x (y ∷ ys) = (x ≡ y) ⊎ IsIn x ys

pub in_contains : {A : Type 0} (x : A) (xs : List A) → IsIn x xs → Contains xs x
in_contains x [] h = absurd h
in_contains x (y ∷ xs) (inl e) = (zero, (let l : 0 < suc (length xs) = omega arith in l), sym e)
in_contains x (y ∷ xs) (inr h) = let (k, l, e) = in_contains x xs h in (suc k, (let m : suc k < suc (length xs) = omega arith in m), e)

pub contains_in : {A : Type 0} (x : A) (xs : List A) → Contains xs x → IsIn x xs
contains_in x [] (k, l, e) = let n : ⊥ = omega arith in n
contains_in x (y ∷ xs) (zero, l, e) = inl (sym e)
contains_in x (y ∷ xs) (suc k, l, e) = inr (contains_in x xs (k, (let m : k < length xs = omega arith in m), e))

pub in_left : {A : Type 0} (x : A) (xs ys : List A) → IsIn x xs → IsIn x (xs ++ ys)
in_left x [] ys h = absurd h
in_left x (y ∷ xs) ys (inl e) = inl e
in_left x (y ∷ xs) ys (inr h) = inr (in_left x xs ys h)

pub in_right : {A : Type 0} (x : A) (xs ys : List A) → IsIn x ys → IsIn x (xs ++ ys)
in_right x [] ys h = h
in_right x (y ∷ xs) ys h = inr (in_right x xs ys h)

pub in_either : {A : Type 0} (x : A) (xs ys : List A) → IsIn x (xs ++ ys) → IsIn x xs ⊎ IsIn x ys
in_either x [] ys h = inr h
in_either x (y ∷ xs) ys (inl e) = inl (inl e)
in_either x (y ∷ xs) ys (inr h) = elim (in_either x xs ys h) [ inl k ↦ inl (inr k) | inr k ↦ inr k ]

pub in_flat : {A B : Type 0} (f : A → List B) (xs : List A) (x : A) (y : B) → IsIn x xs → IsIn y (f x) → IsIn y (flat_map f xs)
in_flat f [] x y h k = absurd h
in_flat f (z ∷ xs) x y (inl e) k = in_left y (f z) (flat_map f xs) (subst (λ w. IsIn y (f w)) e k)
in_flat f (z ∷ xs) x y (inr h) k = in_right y (f z) (flat_map f xs) (in_flat f xs x y h k)

pub each_flat : {A B : Type 0} (P : B → Type 0) (f : A → List B) (xs : List A) → ((x : A) → IsIn x xs → Each P (f x)) → Each P (flat_map f xs)
each_flat P f [] h = tt
each_flat P f (x ∷ xs) h = each_append P (f x) (flat_map f xs) (h x (inl refl)) (each_flat P f xs (λ y k. h y (inr k)))

-- ---- chosen items

pub selects_more : {A : Type 0} (P : A → Type 0) (xs ys : List A) (x : A) → Selects P xs ys → P x → Selects P (xs ++ x ∷ []) (ys ++ x ∷ [])
selects_more P [] ys x s h = inl (h, [], ap (λ z. z ++ x ∷ []) s, refl)
selects_more P (y ∷ xs) ys x (inl (p, rest, e, s)) h = inl (p, rest ++ x ∷ [], ap (λ z. z ++ x ∷ []) e, selects_more P xs rest x s h)
selects_more P (y ∷ xs) ys x (inr (n, s)) h = inr (n, selects_more P xs ys x s h)

pub selects_none : {A : Type 0} (P : A → Type 0) (zs : List A) → Each (λ z. ¬ P z) zs → Selects P zs []
selects_none P [] h = refl
selects_none P (z ∷ zs) h = inr (h.0, selects_none P zs h.1)

pub selects_after : {A : Type 0} (P : A → Type 0) (xs ys zs : List A) → Selects P xs ys → Each (λ z. ¬ P z) zs → Selects P (xs ++ zs) ys
selects_after P [] ys zs s h = subst (Selects P zs) (sym s) (selects_none P zs h)
selects_after P (y ∷ xs) ys zs (inl (p, rest, e, s)) h = inl (p, rest, e, selects_after P xs rest zs s h)
selects_after P (y ∷ xs) ys zs (inr (n, s)) h = inr (n, selects_after P xs ys zs s h)

pub in_selected : {A : Type 0} (P : A → Type 0) (xs ys : List A) (x : A) → Selects P xs ys → IsIn x xs → P x → IsIn x ys
in_selected P [] ys x s h p = absurd h
in_selected P (z ∷ xs) ys x (inl (q, rest, e, s)) (inl k) p = subst (IsIn x) (sym e) (inl k)
in_selected P (z ∷ xs) ys x (inl (q, rest, e, s)) (inr h) p = subst (IsIn x) (sym e) (inr (in_selected P xs rest x s h p))
in_selected P (z ∷ xs) ys x (inr (n, s)) (inl k) p = absurd (n (subst P k p))
in_selected P (z ∷ xs) ys x (inr (n, s)) (inr h) p = in_selected P xs ys x s h p
