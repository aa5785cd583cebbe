-- What is numbered in the order of first sight stands at its number.
use Rattle.std.proofs.Common.{◌≡◌, ◌∙◌, ℕ, zero, suc, ◌+◌, Bool, true, false, ◌||◌, cond, List, [], ◌∷◌, ◌++◌, slice_get, unwrap_or, Some, if◌then◌else◌, refl, sym, ap, true≢false, arith}
use Rattle.std.specs.Prelude.{⊤}
use Rattle.std.specs.Bool.{Decides}
use Rattle.std.specs.List.{AllByRecursion, list_any, position_from}
use Rattle.std.proofs.lemmas.Iterator.Adapters.{position_from-zero}
use Rattle.std.proofs.lemmas.Bool.{or_left, or_right, or_from, or_parts}
use Rattle.indexmap.specs.IndexSet.{insert_key, insert_all}
use Rattle.px_typing.specs.Sights.{first_sights, number_in}
use Rattle.px_programs.proofs.Lists.{Begins, begins_self, begins_trans, all_change}
use Rattle.px_terms.proofs.Recursion.{all_push}

module _ {A : Type 0} (p : A → Bool) where
  any_push : (ks : List A) (x : A) → list_any p (ks ++ x ∷ []) ≡ (list_any p ks || p x)
  any_push [] x = by (p x)
    where
      by : (b : Bool) → (b || false) ≡ b
      by true = refl
      by false = refl
  any_push (k ∷ ks) x = ap (λ b. p k || b) (any_push ks x) ∙ by (p k) (list_any p ks) (p x)
    where
      by : (a b c : Bool) → (a || (b || c)) ≡ ((a || b) || c)
      by true b c = refl
      by false b c = refl

  -- the first that passes
  abbrev IsFoundAt : ℕ → List A → Type 0
  IsFoundAt i ks = (n : ℕ) × (k : A) × (position_from p i ks ≡ Some (i + n)) × (slice_get ks n ≡ Some k) × (p k ≡ true)

  found_at : (i : ℕ) (ks : List A) → list_any p ks ≡ true → IsFoundAt i ks
  found_at i [] h = absurd (true≢false (sym h))
  found_at i (k ∷ ks) h = by (λ g. found_at (i + 1) ks g) (p k) refl
    where
      none_before : (b : Bool) → b ≡ false → (b || list_any p ks) ≡ true → list_any p ks ≡ true
      none_before true e g = absurd (true≢false e)
      none_before false e g = g

      by : (list_any p ks ≡ true → IsFoundAt (i + 1) ks) → (b : Bool) → p k ≡ b → IsFoundAt i (k ∷ ks)
      by further true e =
          let same : i ≡ i + 0 = omega arith in
          (0, k, ap (λ b. cond b (Some i) (position_from p (i + 1) ks)) e ∙ ap Some same, refl, e)
      by further false e =
          let r = further (none_before (p k) e h) in
          let next : (i + 1) + r.0 ≡ i + suc r.0 = omega arith in
          (suc r.0, r.1, ap (λ b. cond b (Some i) (position_from p (i + 1) ks)) e ∙ r.2 ∙ ap Some next, r.3, r.4)

module _ {A : Type 0} (same : A → A → Bool) (decides : (x y : A) → Decides (same x y) (x ≡ y)) where
  abbrev pub IsAtItsNumber : List A → A → Type 0
  IsAtItsNumber ks x = slice_get ks (number_in same ks x) ≡ Some x

  at_number : (ks : List A) (x : A) → list_any (same x) ks ≡ true → IsAtItsNumber ks x
  at_number ks x h =
      let r = found_at (same x) 0 ks h in
      let n : 0 + r.0 ≡ r.0 = omega arith in
      ap (λ o. slice_get ks (unwrap_or o 0)) (position_from-zero (same x) ks ∙ r.2 ∙ ap Some n) ∙ r.3 ∙ ap Some (sym ((decides x r.1).0 r.4))

  -- ---- one more

  key_seen : (p : A → Bool) (ks : List A) (x : A) → list_any p ks ≡ true → list_any p (insert_key same ks x) ≡ true
  key_seen p ks x h = by (list_any (same x) ks)
    where
      by : (b : Bool) → list_any p (if b then ks else ks ++ x ∷ []) ≡ true
      by true = h
      by false = any_push p ks x ∙ or_left (list_any p ks) (p x) h

  key_new : (ks : List A) (x : A) → list_any (same x) (insert_key same ks x) ≡ true
  key_new ks x = by (list_any (same x) ks) refl
    where
      by : (b : Bool) → list_any (same x) ks ≡ b → list_any (same x) (if b then ks else ks ++ x ∷ []) ≡ true
      by true e = e
      by false e = any_push (same x) ks x ∙ or_right (list_any (same x) ks) (same x x) ((decides x x).1 refl)

  key_begins : (ks : List A) (x : A) → Begins ks (insert_key same ks x)
  key_begins ks x = by (list_any (same x) ks)
    where
      by : (b : Bool) → Begins ks (if b then ks else ks ++ x ∷ [])
      by true = begins_self ks
      by false = (x ∷ [], refl)

  key_all : (P : A → Type 0) (ks : List A) (x : A) → AllByRecursion P ks → P x → AllByRecursion P (insert_key same ks x)
  key_all P ks x h k = by (list_any (same x) ks)
    where
      by : (b : Bool) → AllByRecursion P (if b then ks else ks ++ x ∷ [])
      by true = h
      by false = all_push P ks x h k

  -- ---- many more

  all_seen : (p : A → Bool) (xs ks : List A) → list_any p ks ≡ true → list_any p (insert_all same ks xs) ≡ true
  all_seen p [] ks h = h
  all_seen p (x ∷ xs) ks h = all_seen p xs (insert_key same ks x) (key_seen p ks x h)

  pub all_begin : (xs ks : List A) → Begins ks (insert_all same ks xs)
  all_begin [] ks = begins_self ks
  all_begin (x ∷ xs) ks = begins_trans ks (insert_key same ks x) (insert_all same (insert_key same ks x) xs) (key_begins ks x) (all_begin xs (insert_key same ks x))

  -- each stands at its number
  all_at : (xs ks : List A) → AllByRecursion (λ x. list_any (same x) (insert_all same ks xs) ≡ true) xs
  all_at [] ks = tt
  all_at (x ∷ xs) ks = (all_seen (same x) xs (insert_key same ks x) (key_new ks x), all_at xs (insert_key same ks x))

  pub sights_at : (xs : List A) → AllByRecursion (IsAtItsNumber (first_sights same xs)) xs
  sights_at xs =
      all_change (λ x. list_any (same x) (first_sights same xs) ≡ true) (IsAtItsNumber (first_sights same xs)) (λ x h. at_number (first_sights same xs) x h) xs (all_at xs [])

  -- what holds of each that is seen
  all_hold : (P : A → Type 0) (xs ks : List A) → AllByRecursion P ks → AllByRecursion P xs → AllByRecursion P (insert_all same ks xs)
  all_hold P [] ks h k = h
  all_hold P (x ∷ xs) ks h k = all_hold P xs (insert_key same ks x) (key_all P ks x h k.0) k.1

  pub sights_hold : (P : A → Type 0) (xs : List A) → AllByRecursion P xs → AllByRecursion P (first_sights same xs)
  sights_hold P xs h = all_hold P xs [] tt h

  -- ---- none stands twice

  abbrev AreDistinct : List A → Type 0
  AreDistinct [] = ⊤
  AreDistinct (k ∷ ks) = (list_any (same k) ks ≡ false) × AreDistinct ks

  distinct_push : (ks : List A) (x : A) → AreDistinct ks → list_any (same x) ks ≡ false → AreDistinct (ks ++ x ∷ [])
  distinct_push [] x h k = (refl, tt)
  distinct_push (y ∷ ks) x h k =
      (any_push (same y) ks x ∙ or_from (list_any (same y) ks) (same y x) h.0 (by (same y x) refl), distinct_push ks x h.1 (or_parts (same x y) (list_any (same x) ks) k).1)
    where
      by : (b : Bool) → same y x ≡ b → same y x ≡ false
      by true e = absurd (true≢false (sym ((decides x y).1 (sym ((decides y x).0 e))) ∙ (or_parts (same x y) (list_any (same x) ks) k).0))
      by false e = e

  key_distinct : (ks : List A) (x : A) → AreDistinct ks → AreDistinct (insert_key same ks x)
  key_distinct ks x h = by (list_any (same x) ks) refl
    where
      by : (b : Bool) → list_any (same x) ks ≡ b → AreDistinct (if b then ks else ks ++ x ∷ [])
      by true e = h
      by false e = distinct_push ks x h e

  all_distinct : (xs ks : List A) → AreDistinct ks → AreDistinct (insert_all same ks xs)
  all_distinct [] ks h = h
  all_distinct (x ∷ xs) ks h = all_distinct xs (insert_key same ks x) (key_distinct ks x h)

  any_at : (p : A → Bool) (ks : List A) (n : ℕ) (k : A) → slice_get ks n ≡ Some k → p k ≡ true → list_any p ks ≡ true
  any_at p [] n k e h = absurd cc
  any_at p (x ∷ ks) zero k e h = let same_one : x ≡ k = cc in or_left (p x) (list_any p ks) (ap p same_one ∙ h)
  any_at p (x ∷ ks) (suc n) k e h = or_right (p x) (list_any p ks) (any_at p ks n k e h)

  place_of : (i : ℕ) (ks : List A) (n : ℕ) (k : A) → AreDistinct ks → slice_get ks n ≡ Some k → position_from (same k) i ks ≡ Some (i + n)
  place_of i [] n k h e = absurd cc
  place_of i (x ∷ ks) zero k h e =
      let same_one : k ≡ x = cc in
      let start : i ≡ i + 0 = omega arith in
      ap (λ b. cond b (Some i) (position_from (same k) (i + 1) ks)) ((decides k x).1 same_one) ∙ ap Some start
  place_of i (x ∷ ks) (suc n) k h e =
      let next : (i + 1) + n ≡ i + suc n = omega arith in
      ap (λ b. cond b (Some i) (position_from (same k) (i + 1) ks)) (by (same k x) refl) ∙ place_of (i + 1) ks n k h.1 e ∙ ap Some next
    where
      by : (b : Bool) → same k x ≡ b → same k x ≡ false
      by true g = absurd (true≢false (sym (any_at (same x) ks n k e ((decides x k).1 (sym ((decides k x).0 g)))) ∙ h.0))
      by false g = g

  pub number_of : (xs : List A) (n : ℕ) (k : A) → slice_get (first_sights same xs) n ≡ Some k → number_in same (first_sights same xs) k ≡ n
  number_of xs n k e =
      let start : 0 + n ≡ n = omega arith in
      ap (λ o. unwrap_or o 0) (position_from-zero (same k) (first_sights same xs) ∙ place_of 0 (first_sights same xs) n k (all_distinct xs [] tt) e ∙ ap Some start)
