-- What holds of each element of a list, and where elements stand.
use Rattle.std.proofs.Common.{◌≡◌, ◌∙◌, ℕ, zero, suc, List, [], ◌∷◌, ◌++◌, map, slice_get, take, Some, None, append_assoc, append-nil, sym, ap}
use Rattle.std.specs.List.{AllByRecursion}
use Rattle.px_programs.proofs.Options.{Holds}

module _ {A : Type 0} (P : A → Type 0) where
  pub all_first : (xs ys : List A) → AllByRecursion P (xs ++ ys) → AllByRecursion P xs
  all_first [] ys h = tt
  all_first (x ∷ xs) ys h = (h.0, all_first xs ys h.1)

  pub all_second : (xs ys : List A) → AllByRecursion P (xs ++ ys) → AllByRecursion P ys
  all_second [] ys h = h
  all_second (x ∷ xs) ys h = all_second xs ys h.1

  pub all_take : (n : ℕ) (xs : List A) → AllByRecursion P xs → AllByRecursion P (take n xs)
  all_take zero xs h = tt
  all_take (suc n) [] h = tt
  all_take (suc n) (x ∷ xs) h = (h.0, all_take n xs h.1)

  pub all_get : (xs : List A) (n : ℕ) → AllByRecursion P xs → Holds P (slice_get xs n)
  all_get [] n h = tt
  all_get (x ∷ xs) zero h = h.0
  all_get (x ∷ xs) (suc n) h = all_get xs n h.1

pub all_change : {A : Type 0} (P Q : A → Type 0) → ((a : A) → P a → Q a) → (xs : List A) → AllByRecursion P xs → AllByRecursion Q xs
all_change P Q on [] h = tt
all_change P Q on (x ∷ xs) h = (on x h.0, all_change P Q on xs h.1)

pub all_map : {A B : Type 0} (Q : B → Type 0) (f : A → B) (xs : List A) → AllByRecursion (λ a. Q (f a)) xs → AllByRecursion Q (map f xs)
all_map Q f [] h = tt
all_map Q f (x ∷ xs) h = (h.0, all_map Q f xs h.1)

-- a list goes on as another
abbrev pub Begins : {A : Type 0} → List A → List A → Type 0
Begins {A} xs ys = (rest : List A) × (ys ≡ xs ++ rest)

module _ {A : Type 0} where
  pub begins_self : (xs : List A) → Begins xs xs
  begins_self xs = ([], sym (append-nil xs))

  pub begins_push : (before xs : List A) (x : A) → Begins (before ++ xs) (before ++ (xs ++ x ∷ []))
  begins_push before xs x = (x ∷ [], sym (append_assoc before xs (x ∷ [])))

  pub begins_trans : (xs ys zs : List A) → Begins xs ys → Begins ys zs → Begins xs zs
  begins_trans xs ys zs h k = (h.0 ++ k.0, k.1 ∙ ap (λ l. l ++ k.0) h.1 ∙ append_assoc xs h.0 k.0)

  get_before : (xs rest : List A) (n : ℕ) (a : A) → slice_get xs n ≡ Some a → slice_get (xs ++ rest) n ≡ Some a
  get_before [] rest n a h = absurd (none_some h)
    where
      none_some : None ≡ Some a → ⊥
      none_some e = cc
  get_before (x ∷ xs) rest zero a h = h
  get_before (x ∷ xs) rest (suc n) a h = get_before xs rest n a h

  pub get_begins : (xs ys : List A) (n : ℕ) (a : A) → Begins xs ys → slice_get xs n ≡ Some a → slice_get ys n ≡ Some a
  get_begins xs ys n a h k = ap (λ l. slice_get l n) h.1 ∙ get_before xs h.0 n a k
