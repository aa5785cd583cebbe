-- What holds of what some elements of a list give.
use Rattle.std.proofs.Common.{◌≡◌, ◌⊎◌, inl, inr, ℕ, zero, suc, ◌<◌, ◌≤◌, List, [], ◌∷◌, ◌++◌, length, get_or, take, refl, sym, subst, arith}
use Rattle.std.proofs.lemmas.List.{take_all}
use Rattle.std.proofs.lemmas.Option.{none-some, same_Some}
use Rattle.std.specs.Prelude.{Option, Some, None, All, Any, flat_map, option_to_list}
use Rattle.std.proofs.lemmas.List.Elements.{All-nil, All-cons, All-head, All-tail, All-append}
use Rattle.px_terms.proofs.Evaluation.{All-left, All-right}

module _ {Y : Type 0} (P : Y → Type 0) where
  of_option : (o : Option Y) (ys : List Y) → ((y : Y) → o ≡ Some y → P y) → All P ys → All P (option_to_list o ++ ys)
  of_option None ys h k = k
  of_option (Some y) ys h k = All-cons P y ys (h y refl) k

  the_option : (o : Option Y) (ys : List Y) → All P (option_to_list o ++ ys) → (y : Y) → o ≡ Some y → P y
  the_option None ys h y e = absurd (none-some y e)
  the_option (Some z) ys h y e = subst P (same_Some z y e) (All-head P z ys h)

  the_rest : (o : Option Y) (ys : List Y) → All P (option_to_list o ++ ys) → All P ys
  the_rest None ys h = h
  the_rest (Some z) ys h = All-tail P z ys h

  pub all_given : {X : Type 0} (f : X → Option Y) (xs : List X) → All (λ x. (y : Y) → f x ≡ Some y → P y) xs → All P (flat_map (λ x. option_to_list (f x)) xs)
  all_given f [] h = All-nil P
  all_given f (x ∷ xs) h = of_option (f x) (flat_map (λ x. option_to_list (f x)) xs) (All-head (λ x. (y : Y) → f x ≡ Some y → P y) x xs h) (all_given f xs (All-tail (λ x. (y : Y) → f x ≡ Some y → P y) x xs h))

  pub given_all : {X : Type 0} (f : X → Option Y) (xs : List X) → All P (flat_map (λ x. option_to_list (f x)) xs) → All (λ x. (y : Y) → f x ≡ Some y → P y) xs
  given_all f [] h = All-nil (λ x. (y : Y) → f x ≡ Some y → P y)
  given_all f (x ∷ xs) h = All-cons (λ x. (y : Y) → f x ≡ Some y → P y) x xs
      (the_option (f x) (flat_map (λ x. option_to_list (f x)) xs) h)
      (given_all f xs (the_rest (f x) (flat_map (λ x. option_to_list (f x)) xs) h))

  pub all_parts : {X : Type 0} (f : X → List Y) (xs : List X) → All P (flat_map f xs) → All (λ x. All P (f x)) xs
  all_parts f [] h = All-nil (λ x. All P (f x))
  all_parts f (x ∷ xs) h = All-cons (λ x. All P (f x)) x xs (All-left P (f x) (flat_map f xs) h) (all_parts f xs (All-right P (f x) (flat_map f xs) h))

pub parts_all : {X Y : Type 0} (P : Y → Type 0) (f : X → List Y) (xs : List X) → All (λ x. All P (f x)) xs → All P (flat_map f xs)
parts_all P f [] h = All-nil P
parts_all P f (x ∷ xs) h = All-append P (f x) (flat_map f xs) (All-head (λ x. All P (f x)) x xs h) (parts_all P f xs (All-tail (λ x. All P (f x)) x xs h))

pub checked_all : {X : Type 0} (P : X → Type 0) (xs : List X) (i : ℕ) → length xs ≤ i → All P (take i xs) → All P xs
checked_all P xs i l h = subst (All P) (take_all i xs l) h

-- ---- what one element gives

abbrev pub given : {X Y : Type 0} → (X → Option Y) → List X → List Y
given f xs = flat_map (λ x. option_to_list (f x)) xs

first_or_rest : {Y : Type 0} (o : Option Y) (rest : List Y) (i : ℕ) (d : Y) → i < length (option_to_list o ++ rest) →
    (o ≡ Some (get_or (option_to_list o ++ rest) i d)) ⊎ ((j : ℕ) × (j < length rest) × (get_or (option_to_list o ++ rest) i d ≡ get_or rest j d))
first_or_rest None rest i d l = inr (i, l, refl)
first_or_rest (Some y) rest zero d l = inl refl
first_or_rest (Some y) rest (suc i) d l = inr (i, omega arith, refl)

any_there : {X : Type 0} (P : X → Type 0) (x : X) (xs : List X) → Any P xs → Any P (x ∷ xs)
any_there P x xs (k, y, l, e, p) = (suc k, y, omega arith, e, p)

-- what a list gives, some element of it gives
pub given_by : {X Y : Type 0} (f : X → Option Y) (xs : List X) (i : ℕ) (d : Y) → i < length (given f xs) → Any (λ x. f x ≡ Some (get_or (given f xs) i d)) xs
given_by f [] i d l = absurd (omega arith)
given_by {X} {Y} f (x ∷ xs) i d l = elim (first_or_rest (f x) (given f xs) i d l) [
  | inl e ↦ (0, x, omega arith, refl, e)
  | inr (j, b, e) ↦ any_there (λ y. f y ≡ Some (get_or (given f (x ∷ xs)) i d)) x xs
      (weaker (get_or (given f xs) j d) (get_or (given f (x ∷ xs)) i d) (same e) (given_by f xs j d b))
]
  where
    same : {a b : Y} → a ≡ b → b ≡ a
    same e = sym e

    weaker : (a b : Y) → a ≡ b → Any (λ y. f y ≡ Some a) xs → Any (λ y. f y ≡ Some b) xs
    weaker a b e h = subst (λ z. Any (λ y. f y ≡ Some z) xs) e h
