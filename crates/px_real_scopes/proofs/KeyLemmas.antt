-- Where the last that binds is found: what is bound under one name has one key.
use Rattle.std.proofs.Common.{◌≡◌, ◌≢◌, ℕ, ◌+◌, ◌-◌, ◌%◌, ◌<◌, ◌≤◌, true, false, List, length, get_or, inl, inr, ap, sym, ◌∙◌, arith}
use Rattle.std.specs.Prelude.{slice_index}
use Rattle.std.specs.Cmp.Lexicographic.{bytes_decides}
use Rattle.std.proofs.lemmas.Bool.{and_parts, eqb-true, cases_eq, cases_lt, false_from_ne_true}
use Rattle.std.proofs.lemmas.List.{get_or-map, get_or_default, length-map}
use Rattle.px_base.specs.declared.trace.Site.{Site}
use Rattle.px_chains.specs.Ends.{IsEndOfKey}
use Rattle.px_real_scopes.specs.declared.meaning.Binding.{Binding}
use Rattle.px_real_scopes.specs.declared.keys.Wanted.{Wanted}
use Rattle.px_real_scopes.specs.declared.keys.Wanted.TheVariants as W
use Rattle.px_real_scopes.specs.Scopes.{BindingTree, begins_block, of_name, of_tag, of_place}
use Rattle.px_real_scopes.specs.Lookups.{same_place}
use Rattle.px_real_scopes.specs.Views.{binding_view}
use Rattle.px_real_scopes.specs.Keys.{word_key, tag_key, place_key, binding_key, wanted_key, binds, keys_of, IsLast}

one_place : (a b : Site) → same_place a b ≡ true → place_key b ≡ place_key a
one_place a b h =
    let file = and_parts _ _ h in
    let rest = and_parts _ _ file.1 in
    let line : a.line ≡ b.line = eqb-true a.line b.line rest.0 in
    let column : a.column ≡ b.column = eqb-true a.column b.column rest.1 in
    ap (λ l. 8192 + (l % 1024 + b.column % 1024)) (sym line) ∙ ap (λ c. 8192 + (a.line % 1024 + c % 1024)) (sym column)

-- what is bound has the key of what is looked for
pub one_key : (w : Wanted) (b : BindingTree) → binds w b ≡ true → binding_key b ≡ wanted_key w
one_key (W.Name word) begins_block h = absurd cc
one_key (W.Name word) (of_name name m) h = ap word_key (sym ((bytes_decides word.now name).0 h))
one_key (W.Name word) (of_tag name t) h = absurd cc
one_key (W.Name word) (of_place site n) h = absurd cc
one_key (W.Tag word) begins_block h = absurd cc
one_key (W.Tag word) (of_name name m) h = absurd cc
one_key (W.Tag word) (of_tag name t) h = ap tag_key (sym ((bytes_decides word.now name).0 h))
one_key (W.Tag word) (of_place site n) h = absurd cc
one_key (W.Place site) begins_block h = absurd cc
one_key (W.Place site) (of_name name m) h = absurd cc
one_key (W.Place site) (of_tag name t) h = absurd cc
one_key (W.Place site) (of_place place n) h = one_place site place h

module _ (xs : List Binding) (w : Wanted) where
  key_at : (d : Binding) (i : ℕ) → i < length xs → slice_index (keys_of xs) i ≡ binding_key (binding_view (get_or xs i d))
  key_at d i lt = get_or-map (λ b. binding_key (binding_view b)) xs i d 0 lt

  -- with another key it isn't
  other_key : (d : Binding) (i : ℕ) → i < length xs → slice_index (keys_of xs) i ≢ wanted_key w → binds w (binding_view (get_or xs i d)) ≡ false
  other_key d i lt h = false_from_ne_true (binds w (binding_view (get_or xs i d))) (λ e. h (key_at d i lt ∙ one_key w (binding_view (get_or xs i d)) e))

  -- behind the first n none is it, and the last of these has its key
  pub record Reached (n : ℕ) : Type 0 where
    pub within : n ≤ length xs
    pub key : 0 < n → slice_index (keys_of xs) (n - 1) ≡ wanted_key w
    pub none_behind : (d : Binding) (i : ℕ) → n ≤ i → i < length xs → binds w (binding_view (get_or xs i d)) ≡ false

  pub first_reached : (n : ℕ) → IsEndOfKey (keys_of xs) (wanted_key w) (length (keys_of xs)) n → Reached n
  first_reached n e =
      let same : length (keys_of xs) ≡ length xs = length-map xs (λ b. binding_key (binding_view b)) in
      let l = e.within in record {
        within = omega arith;
        key = e.here;
        none_behind = λ d i a b. other_key d i b (e.none_after i a (omega arith));
      }

  -- the last of them isn't it either
  pub next_reached : (n m : ℕ) (x : Binding) → 0 < n → Reached n → x ≡ get_or xs (n - 1) x → binds w (binding_view x) ≡ false → IsEndOfKey (keys_of xs) (slice_index (keys_of xs) (n - 1)) (n - 1) m → Reached m
  next_reached n m x p r is not_it e =
      let l = e.within in
      let w1 = r.within in record {
        within = omega arith;
        key = λ q. e.here q ∙ r.key p;
        none_behind = λ d i a b. elim (cases_lt i (n - 1)) [
          | inl c ↦ other_key d i b (λ h. e.none_after i a c (h ∙ sym (r.key p)))
          | inr c ↦ elim (cases_eq i (n - 1)) [
            | inl same ↦ ap (λ j. binds w (binding_view (get_or xs j d))) same ∙ ap (λ z. binds w (binding_view z)) (get_or_default xs (n - 1) d x (omega arith) ∙ sym is) ∙ not_it
            | inr other ↦ r.none_behind d i (omega (arith, other)) b
          ]
        ];
      }

  pub is_last : (n : ℕ) → Reached n → ((d : Binding) → 0 < n → binds w (binding_view (get_or xs (n - 1) d)) ≡ true) → IsLast (λ b. binds w (binding_view b)) xs n
  is_last n r here = record { within = r.within; here = here; none_behind = r.none_behind }
