-- Numbers in the order of first sight.
use Rattle.std.proofs.Common.{◌≡◌, ◌∙◌, ℕ, suc, ◌+◌, Bool, true, false, cond, ◌||◌, List, [], ◌∷◌, ◌++◌, length, position, unwrap_or, Option, None, Some, if◌then◌else◌, refl, sym, ap, ap₂, true≢false, add-zero, arith}
use Rattle.std.specs.Option.{option_or}
use Rattle.std.specs.List.{list_any, position_from}
use Rattle.std.specs.Cmp.{IsEquivalence}
use Rattle.std.proofs.lemmas.Iterator.Adapters.{position_from-zero}
use Rattle.indexmap.specs.IndexSet.{insert_key, insert_all}
use Rattle.px_bodies.specs.Types.{when}
use Rattle.px_typing.specs.Sights.{number_in}

or-none : {A : Type 0} (o : Option A) → option_or o None ≡ o
or-none None = refl
or-none (Some x) = refl

or_cond : {A : Type 0} (b : Bool) (x : A) (o p : Option A) → cond b (Some x) (option_or o p) ≡ option_or (cond b (Some x) o) p
or_cond true x o p = refl
or_cond false x o p = refl

module _ {A : Type 0} (p : A → Bool) where
  -- where an item stands, after one more
  position_from-more : (i : ℕ) (xs : List A) (x : A) → position_from p i (xs ++ x ∷ []) ≡ option_or (position_from p i xs) (when (p x) (i + length xs))
  position_from-more i [] x = last (p x)
    where
      last : (b : Bool) → cond b (Some i) None ≡ when b (i + 0)
      last true = ap Some (sym (add-zero i))
      last false = refl
  position_from-more i (y ∷ ys) x =
      ap (cond (p y) (Some i)) (position_from-more (i + 1) ys x ∙ ap (λ n. option_or (position_from p (i + 1) ys) (when (p x) n)) (let e : (i + 1) + length ys ≡ i + suc (length ys) = omega arith in e))
      ∙ or_cond (p y) i (position_from p (i + 1) ys) (when (p x) (i + length (y ∷ ys)))

  position-more : (xs : List A) (x : A) → position p (xs ++ x ∷ []) ≡ option_or (position p xs) (when (p x) (length xs))
  position-more xs x = position_from-zero p (xs ++ x ∷ []) ∙ position_from-more 0 xs x ∙ ap₂ (λ o n. option_or o (when (p x) n)) (sym (position_from-zero p xs)) (let e : 0 + length xs ≡ length xs = omega arith in e)

  none_after : (i : ℕ) (x : A) (xs : List A) (b : Bool) → p x ≡ b → list_any p (x ∷ xs) ≡ false → (list_any p xs ≡ false → position_from p (i + 1) xs ≡ None) →
      cond b (Some i) (position_from p (i + 1) xs) ≡ None
  none_after i x xs true e h rest = absurd (true≢false (sym (ap (λ b. b || list_any p xs) e) ∙ h))
  none_after i x xs false e h rest = rest (sym (ap (λ b. b || list_any p xs) e) ∙ h)

  position_from_none : (i : ℕ) (xs : List A) → list_any p xs ≡ false → position_from p i xs ≡ None
  position_from_none i [] h = refl
  position_from_none i (x ∷ xs) h = none_after i x xs (p x) refl h (λ k. position_from_none (i + 1) xs k)

  position_none : (xs : List A) → list_any p xs ≡ false → position p xs ≡ None
  position_none xs h = position_from-zero p xs ∙ position_from_none 0 xs h

module _ {A : Type 0} (same : A → A → Bool) (laws : IsEquivalence same) where
  any_congr : (x y : A) → same x y ≡ true → (xs : List A) → list_any (same x) xs ≡ list_any (same y) xs
  any_congr x y h [] = refl
  any_congr x y h (z ∷ zs) = ap₂ (λ a b. a || b) (laws.congr x y z h) (any_congr x y h zs)

  -- a new item takes the next number, and the others keep theirs
  pub number-new : (seen : List A) (x : A) → list_any (same x) seen ≡ false → (other : A) →
      number_in same (seen ++ x ∷ []) other ≡ cond (same x other) (length seen) (number_in same seen other)
  number-new seen x h other = ap (λ o. unwrap_or o 0) (position-more (same other) seen x) ∙ by (same other x) refl
    where
      by : (b : Bool) → same other x ≡ b → unwrap_or (option_or (position (same other) seen) (when b (length seen))) 0 ≡ cond (same x other) (length seen) (number_in same seen other)
      by true e =
          ap (λ o. unwrap_or (option_or o (Some (length seen))) 0) (position_none (same other) seen (any_congr other x e seen ∙ h))
          ∙ sym (ap (λ b. cond b (length seen) (number_in same seen other)) (laws.symm x other ∙ e))
      by false e =
          ap (λ o. unwrap_or o 0) (or-none (position (same other) seen))
          ∙ sym (ap (λ b. cond b (length seen) (number_in same seen other)) (laws.symm x other ∙ e))

-- many items, one after another
pub insert_all-append : {A : Type 0} (same : A → A → Bool) (seen xs ys : List A) → insert_all same seen (xs ++ ys) ≡ insert_all same (insert_all same seen xs) ys
insert_all-append same seen [] ys = refl
insert_all-append same seen (x ∷ xs) ys = insert_all-append same (insert_key same seen x) xs ys

-- what is seen in order of first sight is so already
module _ {A : Type 0} (same : A → A → Bool) where
  settled_after : (seen xs : List A) → insert_all same [] seen ≡ seen → insert_all same [] (insert_all same seen xs) ≡ insert_all same seen xs
  settled_after seen [] h = h
  settled_after seen (x ∷ xs) h = settled_after (insert_key same seen x) xs (one (list_any (same x) seen) refl)
    where
      one : (b : Bool) → list_any (same x) seen ≡ b → insert_all same [] (insert_key same seen x) ≡ insert_key same seen x
      one true e =
          let k : insert_key same seen x ≡ seen = ap (λ b. if b then seen else seen ++ x ∷ []) e in
          ap (insert_all same []) k ∙ h ∙ sym k
      one false e =
          let k : insert_key same seen x ≡ seen ++ x ∷ [] = ap (λ b. if b then seen else seen ++ x ∷ []) e in
          ap (insert_all same []) k ∙ insert_all-append same [] seen (x ∷ []) ∙ ap (λ s. insert_key same s x) h

  pub settled : (xs : List A) → insert_all same [] (insert_all same [] xs) ≡ insert_all same [] xs
  settled xs = settled_after [] xs refl
