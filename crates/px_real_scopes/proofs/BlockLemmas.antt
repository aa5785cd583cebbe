-- Where the innermost block begins, and what is bound in it.
use Rattle.std.proofs.Common.{◌≡◌, ◌≢◌, ℕ, zero, suc, ◌+◌, ◌-◌, ◌*◌, ◌<◌, ◌≤◌, Bool, List, [], ◌∷◌, length, take, get_or, Option, Some, None, refl, ap, sym, ◌∙◌, inl, inr, arith}
use Rattle.std.specs.Prelude.{slice_index, fold}
use Rattle.std.proofs.lemmas.Bool.{cases_lt}
use Rattle.std.proofs.lemmas.Nat.{mod_below}
use Rattle.std.proofs.lemmas.List.{take_all, length-map, get_or-map, get_or_default}
use Rattle.px_expressions.specs.Reading.{or_else}
use Rattle.px_chains.specs.Ends.{IsEndOfKey}
use Rattle.px_real_scopes.specs.declared.meaning.Binding.{Binding}
use Rattle.px_real_scopes.specs.declared.meaning.Binding.TheVariants as V
use Rattle.px_real_scopes.specs.Scopes.{BindingTree, begins_block, of_name, of_tag, of_place}
use Rattle.px_real_scopes.specs.Lookups.{first_said, own_block, behind_block}
use Rattle.px_real_scopes.specs.Views.{binding_view, bindings_view}
use Rattle.px_real_scopes.specs.Keys.{key_step, word_key, block_key, binding_key, keys_of, IsLast}
use Rattle.px_real_scopes.proofs.NearestLemmas.{Says, last_first}

-- ---- no other key is that of a block

low_fold : (key : ℕ) → key < 4096 → (word : List ℕ) → fold key_step key word < 4096
low_fold key h [] = h
low_fold key h (b ∷ bs) = low_fold (key_step key b) (mod_below (key * 31 + b) 4096 (omega arith)) bs

pub low_key : (word : List ℕ) → word_key word < 4096
low_key word = low_fold 0 (omega arith) word

pub is_block : (b : BindingTree) → binding_key b ≡ block_key → b ≡ begins_block
is_block begins_block h = refl
is_block (of_name name m) h = let l = low_key name in absurd (omega arith)
is_block (of_tag name t) h = let l = low_key name in absurd (omega arith)
is_block (of_place site n) h =
    let a = mod_below site.line 1024 (omega arith) in
    let b = mod_below site.column 1024 (omega arith) in
    absurd (omega arith)

-- ---- one binding behind another

behind_other : (b : BindingTree) (bs : List BindingTree) → binding_key b ≢ block_key → behind_block (b ∷ bs) ≡ behind_block bs
behind_other begins_block bs h = absurd (h refl)
behind_other (of_name name m) bs h = refl
behind_other (of_tag name t) bs h = refl
behind_other (of_place site n) bs h = refl

own_other : (b : BindingTree) (bs : List BindingTree) → binding_key b ≢ block_key → own_block (b ∷ bs) ≡ b ∷ own_block bs
own_other begins_block bs h = absurd (h refl)
own_other (of_name name m) bs h = refl
own_other (of_tag name t) bs h = refl
own_other (of_place site n) bs h = refl

module _ (xs : List Binding) (e : ℕ) (is_end : IsEndOfKey (keys_of xs) block_key (length (keys_of xs)) e) where
  count : length (keys_of xs) ≡ length xs
  count = length-map xs (λ b. binding_key (binding_view b))

  key_at : (d : Binding) (i : ℕ) → i < length xs → slice_index (keys_of xs) i ≡ binding_key (binding_view (get_or xs i d))
  key_at d i lt = get_or-map (λ b. binding_key (binding_view b)) xs i d 0 lt

  not_block : (i : ℕ) → e ≤ i → i < length xs → binding_key (binding_view (get_or xs i V.Block)) ≢ block_key
  not_block i a b h = is_end.none_after i a (let c = count in omega arith) (key_at V.Block i b ∙ h)

  block_here : 0 < e → binding_view (get_or xs (e - 1) V.Block) ≡ begins_block
  block_here p =
      let w = is_end.within in
      let c = count in
      is_block (binding_view (get_or xs (e - 1) V.Block)) (sym (key_at V.Block (e - 1) (omega arith)) ∙ is_end.here p)

  within : e ≤ length xs
  within = let w = is_end.within in let c = count in omega arith

  -- ---- what is behind it

  behind_more : (k : ℕ) → e + k ≤ length xs → behind_block (bindings_view (take (e + k) xs)) ≡ behind_block (bindings_view (take e xs))
  behind_more zero l = ap (λ m. behind_block (bindings_view (take m xs))) (omega arith)
  behind_more (suc k) l =
      let n : e + suc k ≡ e + k + 1 = omega arith in
      let lt : e + k < length xs = omega arith in
      ap behind_block (last_first binding_view xs (e + suc k) (e + k) V.Block n lt)
      ∙ behind_other (binding_view (get_or xs (e + k) V.Block)) (bindings_view (take (e + k) xs)) (not_block (e + k) (omega arith) lt) ∙ behind_more k (omega arith)

  all_of_it : bindings_view (take (e + (length xs - e)) xs) ≡ bindings_view xs
  all_of_it = let w = within in let n : e + (length xs - e) ≡ length xs = omega arith in ap (λ m. bindings_view (take m xs)) n ∙ ap bindings_view (take_all (length xs) xs (omega arith))

  at_it : behind_block (bindings_view (take e xs)) ≡ bindings_view (take (e - 1) xs)
  at_it = elim (cases_lt 0 e) [
    | inl p ↦ (let w = within in let n : e ≡ e - 1 + 1 = omega arith in let lt : e - 1 < length xs = omega arith in
        ap behind_block (last_first binding_view xs e (e - 1) V.Block n lt)
        ∙ ap (λ z. behind_block (z ∷ bindings_view (take (e - 1) xs))) (block_here p))
    | inr z ↦ (let n : e ≡ 0 = omega arith in let m : 0 ≡ e - 1 = omega arith in ap (λ k. behind_block (bindings_view (take k xs))) n ∙ ap (λ k. bindings_view (take k xs)) m)
  ]

  pub behind_is : behind_block (bindings_view xs) ≡ bindings_view (take (e - 1) xs)
  behind_is = let w = within in ap behind_block (sym all_of_it) ∙ behind_more (length xs - e) (omega arith) ∙ at_it

  -- ---- what is bound in it

  module _ {C : Type 0} (binds : BindingTree → Bool) (says bound : BindingTree → Option C) (s : Says binds says bound) (n : ℕ) (last : IsLast (λ x. binds (binding_view x)) xs n) where
    abbrev Own : ℕ → Option C
    Own m = first_said says (own_block (bindings_view (take m xs)))

    own_more : (b : ℕ) → e ≤ b → n ≤ b → (k : ℕ) → b + k ≤ length xs → Own (b + k) ≡ Own b
    own_more b h g zero l = ap Own (omega arith)
    own_more b h g (suc k) l =
        let m : b + suc k ≡ b + k + 1 = omega arith in
        let lt : b + k < length xs = omega arith in
        let x = binding_view (get_or xs (b + k) V.Block) in
        ap (λ z. first_said says (own_block z)) (last_first binding_view xs (b + suc k) (b + k) V.Block m lt)
        ∙ ap (first_said says) (own_other x (bindings_view (take (b + k) xs)) (not_block (b + k) (omega arith) lt))
        ∙ ap (λ z. or_else z (λ c. Some c) (Own (b + k))) (s.not_here x (last.none_behind V.Block (b + k) (omega arith) lt)) ∙ own_more b h g k (omega arith)

    own_from : (b : ℕ) → e ≤ b → n ≤ b → b ≤ length xs → first_said says (own_block (bindings_view xs)) ≡ Own b
    own_from b h g l =
        let m : b + (length xs - b) ≡ length xs = omega arith in
        sym (ap (λ z. first_said says (own_block (bindings_view z))) (ap (λ j. take j xs) m ∙ take_all (length xs) xs (omega arith))) ∙ own_more b h g (length xs - b) (omega arith)

    -- the block begins behind it
    pub not_own : n ≤ e → first_said says (own_block (bindings_view xs)) ≡ None
    not_own g = own_from e (omega arith) g within ∙ elim (cases_lt 0 e) [
      | inl p ↦ (let w = within in let m : e ≡ e - 1 + 1 = omega arith in let lt : e - 1 < length xs = omega arith in
          ap (λ z. first_said says (own_block z)) (last_first binding_view xs e (e - 1) V.Block m lt) ∙ ap (λ z. first_said says (own_block (z ∷ bindings_view (take (e - 1) xs)))) (block_here p))
      | inr z ↦ (let m : e ≡ 0 = omega arith in ap Own m)
    ]

    pub own : (d : Binding) → e < n → first_said says (own_block (bindings_view xs)) ≡ bound (binding_view (get_or xs (n - 1) d))
    own d g =
        let w = last.within in
        let m : n ≡ n - 1 + 1 = omega arith in
        let lt : n - 1 < length xs = omega arith in
        let x = binding_view (get_or xs (n - 1) V.Block) in
        own_from n (omega arith) (omega arith) w ∙ ap (λ z. first_said says (own_block z)) (last_first binding_view xs n (n - 1) V.Block m lt)
        ∙ ap (first_said says) (own_other x (bindings_view (take (n - 1) xs)) (not_block (n - 1) (omega arith) lt))
        ∙ s.here x (own_block (bindings_view (take (n - 1) xs))) (last.here V.Block (omega arith)) ∙ ap (λ z. bound (binding_view z)) (get_or_default xs (n - 1) V.Block d lt)
