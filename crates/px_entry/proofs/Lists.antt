-- Facts of each item of a list, as tests give them.
use Rattle.std.proofs.Common.{◌≡◌, ◌∙◌, zero, suc, List, [], ◌∷◌, ◌++◌, Bool, true, refl, ap, arith}
use Rattle.std.specs.Prelude.{All, flat_map, ◌&&◌}
use Rattle.std.specs.List.{list_all}
use Rattle.std.proofs.lemmas.Bool.{and_parts, and_from}
use Rattle.std.proofs.lemmas.List.Folds.{list_all-append}

-- P holds of each item
abbrev pub Each : {A : Type 0} → (A → Type 0) → List A → Type 0
Each P [] = Unit {0}
Each P (x ∷ xs) = P x × Each P xs

pub each_append : {A : Type 0} (P : A → Type 0) (xs ys : List A) → Each P xs → Each P ys → Each P (xs ++ ys)
each_append P [] ys h k = k
each_append P (x ∷ xs) ys h k = (h.0, each_append P xs ys h.1 k)

pub each_all : {A : Type 0} (P : A → Type 0) (xs : List A) → Each P xs → All P xs
each_all P [] h k d l = let n : ⊥ = omega arith in absurd n
each_all P (x ∷ xs) h zero d l = h.0
each_all P (x ∷ xs) h (suc k) d l = each_all P xs h.1 k d (omega arith)

pub all_each : {A : Type 0} (P : A → Type 0) (xs : List A) → All P xs → Each P xs
all_each P [] h = tt
all_each P (x ∷ xs) h = (h zero x (omega arith), all_each P xs (λ k d l. h (suc k) d (omega arith)))

-- from a test of each item, and back
pub each_from : {A : Type 0} (test : A → Bool) (P : A → Type 0) → ((x : A) → test x ≡ true → P x) → (xs : List A) → list_all test xs ≡ true → Each P xs
each_from test P from [] e = tt
each_from test P from (x ∷ xs) e = let b = and_parts (test x) (list_all test xs) e in (from x b.0, each_from test P from xs b.1)

pub each_to : {A : Type 0} (test : A → Bool) (P : A → Type 0) → ((x : A) → P x → test x ≡ true) → (xs : List A) → Each P xs → list_all test xs ≡ true
each_to test P to [] h = refl
each_to test P to (x ∷ xs) h = and_from (test x) (list_all test xs) (to x h.0) (each_to test P to xs h.1)

-- of the items that those of another list give
pub each_given : {A B : Type 0} (test : A → Bool) (P : B → Type 0) (f : A → List B) → ((x : A) → test x ≡ true → Each P (f x)) →
    (xs : List A) → list_all test xs ≡ true → Each P (flat_map f xs)
each_given test P f from [] e = tt
each_given test P f from (x ∷ xs) e = let b = and_parts (test x) (list_all test xs) e in each_append P (f x) (flat_map f xs) (from x b.0) (each_given test P f from xs b.1)

-- a test of each item of each list
pub all_of_each : {A B : Type 0} (test : B → Bool) (f : A → List B) (xs : List A) → list_all test (flat_map f xs) ≡ list_all (λ x. list_all test (f x)) xs
all_of_each test f [] = refl
all_of_each test f (x ∷ xs) = list_all-append test (f x) (flat_map f xs) ∙ ap (λ b. list_all test (f x) && b) (all_of_each test f xs)
