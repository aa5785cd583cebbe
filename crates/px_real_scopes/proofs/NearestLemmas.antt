-- What the last that binds says is what the nearest says.
use Rattle.std.proofs.Common.{◌≡◌, ℕ, zero, suc, ◌+◌, ◌-◌, ◌<◌, ◌≤◌, Bool, true, false, List, [], ◌∷◌, length, take, get_or, map, reverse, Option, Some, None, refl, ap, sym, ◌∙◌, arith}
use Rattle.std.proofs.lemmas.List.{take_more, take_all, map_push, reverse-append}
use Rattle.px_expressions.specs.Reading.{or_else}
use Rattle.px_base.specs.declared.trace.Site.{Site}
use Rattle.px_real_scopes.specs.Scopes.{BindingTree, begins_block, of_name, of_tag, of_place}
use Rattle.px_real_scopes.specs.Lookups.{first_said, says_name, says_tag, says_place}
use Rattle.px_real_scopes.specs.Keys.{IsLast, binds_name, binds_tag, binds_place, meaning_bound, tag_bound, number_bound}

-- what binds says what is bound, and nothing else says anything
pub record Says {B C : Type 0} (binds : B → Bool) (says bound : B → Option C) : Type 0 where
  pub here : (b : B) (bs : List B) → binds b ≡ true → first_said says (b ∷ bs) ≡ bound b
  pub not_here : (b : B) → binds b ≡ false → says b ≡ None

module _ {A B : Type 0} (view : A → B) where
  -- the last is the nearest
  pub last_first : (xs : List A) (n i : ℕ) (d : A) → n ≡ i + 1 → i < length xs → reverse (map view (take n xs)) ≡ view (get_or xs i d) ∷ reverse (map view (take i xs))
  last_first xs n i d e lt =
      ap (λ m. reverse (map view (take m xs))) e ∙ ap (λ z. reverse (map view z)) (take_more xs i d lt) ∙ ap reverse (map_push view (take i xs) (get_or xs i d)) ∙ reverse-append (map view (take i xs)) (view (get_or xs i d) ∷ [])

  module _ {C : Type 0} (says : B → Option C) (xs : List A) (d : A) (n : ℕ) (none : (i : ℕ) → n ≤ i → i < length xs → says (view (get_or xs i d)) ≡ None) where
    abbrev Said : ℕ → Option C
    Said m = first_said says (reverse (map view (take m xs)))

    skip_one : (b : B) (bs : List B) → says b ≡ None → first_said says (b ∷ bs) ≡ first_said says bs
    skip_one b bs h = ap (λ z. or_else z (λ c. Some c) (first_said says bs)) h

    skips : (k : ℕ) → n + k ≤ length xs → Said (n + k) ≡ Said n
    skips zero l = ap Said (omega arith)
    skips (suc k) l =
        let e : n + suc k ≡ n + k + 1 = omega arith in
        let lt : n + k < length xs = omega arith in
        ap (first_said says) (last_first xs (n + suc k) (n + k) d e lt)
        ∙ skip_one (view (get_or xs (n + k) d)) (reverse (map view (take (n + k) xs))) (none (n + k) (omega arith) lt) ∙ skips k (omega arith)

    pub all_skipped : n ≤ length xs → first_said says (reverse (map view xs)) ≡ Said n
    all_skipped l =
        let e : n + (length xs - n) ≡ length xs = omega arith in
        sym (ap (λ z. first_said says (reverse (map view z))) (ap (λ m. take m xs) e ∙ take_all (length xs) xs (omega arith))) ∙ skips (length xs - n) (omega arith)

  module _ {C : Type 0} (binds : B → Bool) (says bound : B → Option C) (s : Says binds says bound) (xs : List A) (d : A) (n : ℕ) (l : IsLast (λ x. binds (view x)) xs n) where
    none_from : (i : ℕ) → n ≤ i → i < length xs → says (view (get_or xs i d)) ≡ None
    none_from i a b = s.not_here (view (get_or xs i d)) (l.none_behind d i a b)

    pub not_found : n ≡ 0 → first_said says (reverse (map view xs)) ≡ None
    not_found z = let w = l.within in all_skipped says xs d n none_from w ∙ ap (λ m. first_said says (reverse (map view (take m xs)))) z

    pub found : 0 < n → first_said says (reverse (map view xs)) ≡ bound (view (get_or xs (n - 1) d))
    found p =
        let w = l.within in
        let e : n ≡ n - 1 + 1 = omega arith in
        let lt : n - 1 < length xs = omega arith in
        all_skipped says xs d n none_from w ∙ ap (first_said says) (last_first xs n (n - 1) d e lt)
        ∙ s.here (view (get_or xs (n - 1) d)) (reverse (map view (take (n - 1) xs))) (l.here d p)

pub says_names : (word : List ℕ) → Says (binds_name word) (says_name word) meaning_bound
says_names word = record { here = here; not_here = not_here }
  where
    here : (b : BindingTree) (bs : List BindingTree) → binds_name word b ≡ true → first_said (says_name word) (b ∷ bs) ≡ meaning_bound b
    here begins_block bs h = absurd cc
    here (of_name name m) bs h = rw h refl
    here (of_tag name t) bs h = absurd cc
    here (of_place site n) bs h = absurd cc

    not_here : (b : BindingTree) → binds_name word b ≡ false → says_name word b ≡ None
    not_here begins_block h = refl
    not_here (of_name name m) h = rw h refl
    not_here (of_tag name t) h = refl
    not_here (of_place site n) h = refl

pub says_tags : (word : List ℕ) → Says (binds_tag word) (says_tag word) tag_bound
says_tags word = record { here = here; not_here = not_here }
  where
    here : (b : BindingTree) (bs : List BindingTree) → binds_tag word b ≡ true → first_said (says_tag word) (b ∷ bs) ≡ tag_bound b
    here begins_block bs h = absurd cc
    here (of_name name m) bs h = absurd cc
    here (of_tag name t) bs h = rw h refl
    here (of_place site n) bs h = absurd cc

    not_here : (b : BindingTree) → binds_tag word b ≡ false → says_tag word b ≡ None
    not_here begins_block h = refl
    not_here (of_name name m) h = refl
    not_here (of_tag name t) h = rw h refl
    not_here (of_place site n) h = refl

pub says_places : (site : Site) → Says (binds_place site) (says_place site) number_bound
says_places site = record { here = here; not_here = not_here }
  where
    here : (b : BindingTree) (bs : List BindingTree) → binds_place site b ≡ true → first_said (says_place site) (b ∷ bs) ≡ number_bound b
    here begins_block bs h = absurd cc
    here (of_name name m) bs h = absurd cc
    here (of_tag name t) bs h = absurd cc
    here (of_place place n) bs h = rw h refl

    not_here : (b : BindingTree) → binds_place site b ≡ false → says_place site b ≡ None
    not_here begins_block h = refl
    not_here (of_name name m) h = refl
    not_here (of_tag name t) h = refl
    not_here (of_place place n) h = rw h refl
