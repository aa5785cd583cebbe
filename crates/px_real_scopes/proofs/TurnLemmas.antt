-- What is said of what is left of a list, turn by turn.
use Rattle.std.proofs.Common.{◌≡◌, ℕ, ◌+◌, ◌<◌, ◌≤◌, List, [], ◌∷◌, ◌++◌, length, drop, get_or, map, Option, Some, None, ap, sym, ◌∙◌, append_assoc}
use Rattle.std.proofs.lemmas.List.{drop_more, drop_all}
use Rattle.px_expressions.specs.Reading.{or_else}
use Rattle.px_real_scopes.specs.Lookups.{first_said}

module _ {A B C : Type 0} (says : B → Option C) (view : A → B) (xs : List A) (i : ℕ) where
  left_is : (x : A) → i < length xs → x ≡ get_or xs i x → first_said says (map view (drop i xs)) ≡ or_else (says (view x)) (λ c. Some c) (first_said says (map view (drop (i + 1) xs)))
  left_is x lt e = ap (λ z. first_said says (map view z)) (drop_more xs i x lt ∙ ap (λ z. z ∷ drop (i + 1) xs) (sym e))

  -- this one says it
  pub said_here : (x : A) {o : Option C} (c : C) → i < length xs → x ≡ get_or xs i x → first_said says (map view (drop i xs)) ≡ o → says (view x) ≡ Some c → Some c ≡ o
  said_here x c lt e so_far h = sym (ap (λ z. or_else z (λ c. Some c) (first_said says (map view (drop (i + 1) xs)))) h) ∙ sym (left_is x lt e) ∙ so_far

  -- it doesn't
  pub said_next : (x : A) {o : Option C} → i < length xs → x ≡ get_or xs i x → first_said says (map view (drop i xs)) ≡ o → says (view x) ≡ None → first_said says (map view (drop (i + 1) xs)) ≡ o
  said_next x lt e so_far h = sym (ap (λ z. or_else z (λ c. Some c) (first_said says (map view (drop (i + 1) xs)))) h) ∙ sym (left_is x lt e) ∙ so_far

  -- none is left
  pub none_said : {o : Option C} → length xs ≤ i → first_said says (map view (drop i xs)) ≡ o → None ≡ o
  none_said le so_far = sym (ap (λ z. first_said says (map view z)) (drop_all i xs le)) ∙ so_far

-- ---- what is done with each

module _ {A B S : Type 0} (all : S → List B → S) (one : S → B → S) (law : (st : S) (x : B) (xs : List B) → all st (x ∷ xs) ≡ all (one st x) xs) (view : A → B) (xs : List A) (i : ℕ) where
  pub one_done : (x : A) (st st1 : S) {o : S} → i < length xs → x ≡ get_or xs i x → all st (map view (drop i xs)) ≡ o → st1 ≡ one st (view x) → all st1 (map view (drop (i + 1) xs)) ≡ o
  one_done x st st1 lt is so_far h =
      ap (λ z. all z (map view (drop (i + 1) xs))) h ∙ sym (law st (view x) (map view (drop (i + 1) xs)))
      ∙ sym (ap (λ z. all st (map view z)) (drop_more xs i x lt ∙ ap (λ z. z ∷ drop (i + 1) xs) (sym is))) ∙ so_far

-- ---- one or another

pub or_some : {A B : Type 0} (o : Option A) (a : A) (f : A → B) (d : B) → Some a ≡ o → f a ≡ or_else o f d
or_some o a f d h = ap (λ z. or_else z f d) h

pub or_none : {A B : Type 0} (o : Option A) (f : A → B) (d : B) → None ≡ o → d ≡ or_else o f d
or_none o f d h = ap (λ z. or_else z f d) h

-- ---- what is put behind others

pub put_behind : {A B : Type 0} (f : A → B) (xs : List A) (i : ℕ) (x : A) (done new : List B) (v : B) {o : List B} → i < length xs → x ≡ get_or xs i x → new ≡ done ++ v ∷ [] → v ≡ f x →
    done ++ map f (drop i xs) ≡ o → new ++ map f (drop (i + 1) xs) ≡ o
put_behind f xs i x done new v lt is hn hv so_far =
    ap (λ z. z ++ map f (drop (i + 1) xs)) (hn ∙ ap (λ w. done ++ w ∷ []) hv) ∙ append_assoc done (f x ∷ []) (map f (drop (i + 1) xs))
    ∙ sym (ap (λ z. done ++ map f z) (drop_more xs i x lt ∙ ap (λ z. z ∷ drop (i + 1) xs) (sym is))) ∙ so_far
