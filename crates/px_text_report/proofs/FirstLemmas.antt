-- The first of each kind of item, list by list.
use Rattle.std.proofs.Common.{◌≡◌, Bool, true, false, ◌||◌, List, [], ◌∷◌, ◌++◌, if◌then◌else◌, refl, sym, ap, ◌∙◌, append_assoc, append-nil}
use Rattle.std.specs.List.{list_any}
use Rattle.std.proofs.lemmas.List.Folds.{list_any-append}
use Rattle.px_text_report.specs.Firsts.{firsts, others}

-- those of two lists, one after another
pub others-append : {A : Type 0} (same : A → A → Bool) (these xs ys : List A) → others same these (xs ++ ys) ≡ others same these xs ++ others same (these ++ others same these xs) ys
others-append same these [] ys = ap (λ z. others same z ys) (sym (append-nil these))
others-append {A} same these (x ∷ xs) ys =
    by (others same (these ++ x ∷ []) xs) (others-append same these xs ys) (others-append same (these ++ x ∷ []) xs ys) (list_any (same x) these)
  where
    by : (inner : List A) → others same these (xs ++ ys) ≡ others same these xs ++ others same (these ++ others same these xs) ys →
        others same (these ++ x ∷ []) (xs ++ ys) ≡ inner ++ others same ((these ++ x ∷ []) ++ inner) ys →
        (b : Bool) → (if b then others same these (xs ++ ys) else x ∷ others same (these ++ x ∷ []) (xs ++ ys))
        ≡ (if b then others same these xs else x ∷ inner) ++ others same (these ++ (if b then others same these xs else x ∷ inner)) ys
    by inner there not_there true = there
    by inner there not_there false = ap (λ z. x ∷ z) not_there ∙ ap (λ z. x ∷ (inner ++ others same z ys)) (append_assoc these (x ∷ []) inner)

-- those of one list more, after those that are there
pub others_more : {A : Type 0} (same : A → A → Bool) (these new xs ys all : List A) → new ≡ these ++ others same these xs → these ++ others same these (xs ++ ys) ≡ all →
    new ++ others same new ys ≡ all
others_more same these new xs ys all e whole =
    ap (λ z. z ++ others same z ys) e
    ∙ append_assoc these (others same these xs) (others same (these ++ others same these xs) ys)
    ∙ ap (λ z. these ++ z) (sym (others-append same these xs ys))
    ∙ whole

-- Where what is the same as an item is the same as what that is the same as, the first ones have what all have.
module _ {A : Type 0} (same : A → A → Bool) (e : A) (share : (x : A) (these : List A) → same e x ≡ true → list_any (same x) these ≡ true → list_any (same e) these ≡ true) where
  abbrev has : List A → Bool
  has xs = list_any (same e) xs

  there : (t s o x : Bool) → (s ≡ true → t ≡ true) → (t || o) ≡ (t || x) → (t || o) ≡ (t || (s || x))
  there true s o x h e = refl
  there false true o x h e = absurd (no (h refl))
    where
      no : false ≡ true → ⊥
      no f = cc
  there false false o x h e = e

  not_there : (t s o x : Bool) → ((t || (s || false)) || o) ≡ ((t || (s || false)) || x) → (t || (s || o)) ≡ (t || (s || x))
  not_there true s o x e = refl
  not_there false true o x e = refl
  not_there false false o x e = e

  any_others : (these xs : List A) → (has these || has (others same these xs)) ≡ (has these || has xs)
  any_others these [] = refl
  any_others these (x ∷ xs) = by (list_any (same x) these) refl (any_others these xs) (any_others (these ++ x ∷ []) xs)
    where
      by : (b : Bool) → list_any (same x) these ≡ b → (has these || has (others same these xs)) ≡ (has these || has xs) →
          (has (these ++ x ∷ []) || has (others same (these ++ x ∷ []) xs)) ≡ (has (these ++ x ∷ []) || has xs) →
          (has these || has (if b then others same these xs else x ∷ others same (these ++ x ∷ []) xs)) ≡ (has these || has (x ∷ xs))
      by true is rest more = there (has these) (same e x) (has (others same these xs)) (has xs) (λ s. share x these s is) rest
      by false is rest more =
          let both = list_any-append (same e) these (x ∷ []) in
          not_there (has these) (same e x) (has (others same (these ++ x ∷ []) xs)) (has xs)
          (ap (λ t. t || has (others same (these ++ x ∷ []) xs)) (sym both) ∙ more ∙ ap (λ t. t || has xs) both)

  pub any_firsts : (xs : List A) → has (firsts same xs) ≡ has xs
  any_firsts xs = any_others [] xs
