-- What the bounds on one variable leave out, gathered from the last one to the first.
use Rattle.std.proofs.Common.{◌≡◌, ◌≢◌, ℕ, zero, suc, ◌+◌, ◌-◌, ◌<◌, ◌≤◌, List, [], ◌∷◌, ◌++◌, length, get_or, take, map, sym, ap, ◌∙◌, arith, append_assoc}
use Rattle.std.specs.Prelude.{false, cond, filter, flat_map, nat_eq, reverse, slice_index}
use Rattle.std.proofs.lemmas.Bool.{eq-eqb, ne_eqb}
use Rattle.std.proofs.lemmas.List.{take_more, reverse-append, get_or-map}
use Rattle.px_chains.specs.Ends.{IsEndOfKey}
use Rattle.px_interval.specs.declared.gaps.Gap.{Gap}
use Rattle.px_interval.specs.declared.kept.Kept.{Kept}
use Rattle.px_interval.specs.Gaps.{gaps_of, variable_of, gaps_on}

pub gaps_with : (x : ℕ) (k : Kept) (kept : List Kept) → variable_of k ≡ x → gaps_on x (k ∷ kept) ≡ gaps_of k.bound ++ gaps_on x kept
gaps_with x k kept e =
    ap (λ b. flat_map (λ (j : Kept). gaps_of j.bound) (cond b (k ∷ filter (λ (j : Kept). nat_eq (variable_of j) x) kept) (filter (λ (j : Kept). nat_eq (variable_of j) x) kept))) (eq-eqb (variable_of k) x e)

pub gaps_without : (x : ℕ) (k : Kept) (kept : List Kept) → variable_of k ≢ x → gaps_on x (k ∷ kept) ≡ gaps_on x kept
gaps_without x k kept d =
    ap (λ b. flat_map (λ (j : Kept). gaps_of j.bound) (cond b (k ∷ filter (λ (j : Kept). nat_eq (variable_of j) x) kept) (filter (λ (j : Kept). nat_eq (variable_of j) x) kept))) (ne_eqb (variable_of k) x d)

-- a bound, by its place
abbrev pub kept_at : List Kept → ℕ → Kept
kept_at bounds n = get_or bounds n (record { bound = record { variable = 0; inside = false; low = 0; end = 0 }; at = 0 })

module _ (bounds : List Kept) (x : ℕ) where
  -- what the first n leave out
  abbrev gaps_below : ℕ → List Gap
  gaps_below n = gaps_on x (reverse (take n bounds))

  below_more : (n : ℕ) → n < length bounds → gaps_below (n + 1) ≡ gaps_on x (kept_at bounds n ∷ reverse (take n bounds))
  below_more n l =
      ap (λ ks. gaps_on x (reverse ks)) (take_more bounds n (record { bound = record { variable = 0; inside = false; low = 0; end = 0 }; at = 0 }) l)
      ∙ ap (gaps_on x) (reverse-append (take n bounds) (kept_at bounds n ∷ []))

  key_is : (n : ℕ) → n < length bounds → slice_index (map variable_of bounds) n ≡ variable_of (kept_at bounds n)
  key_is n l = get_or-map variable_of bounds n (record { bound = record { variable = 0; inside = false; low = 0; end = 0 }; at = 0 }) 0 l

  -- none of them is on x from m on
  passed : (m d : ℕ) → m + d ≤ length bounds → ((i : ℕ) → m ≤ i → i < m + d → slice_index (map variable_of bounds) i ≢ x) → gaps_below (m + d) ≡ gaps_below m
  passed m zero l none = ap gaps_below (let e : m + zero ≡ m = omega arith in e)
  passed m (suc d) l none =
      let e : m + suc d ≡ m + d + 1 = omega arith in
      let inside : m + d < length bounds = omega arith in
      ap gaps_below e
      ∙ below_more (m + d) inside
      ∙ gaps_without x (kept_at bounds (m + d)) (reverse (take (m + d) bounds)) (λ f. none (m + d) (omega arith) (omega arith) (key_is (m + d) inside ∙ f))
      ∙ passed m d (omega arith) (λ i a b. none i a (omega arith))

  pub gaps_up_to : (m n : ℕ) → m ≤ length bounds → IsEndOfKey (map variable_of bounds) x m n → gaps_below m ≡ gaps_below n
  gaps_up_to m n l end =
      let w = end.within in
      let e : n + (m - n) ≡ m = omega arith in
      ap gaps_below (sym e) ∙ passed n (m - n) (omega arith) (λ i a b. end.none_after i a (omega arith))

  -- one bound more is gathered
  pub gathered : (found all : List Gap) (place before : ℕ) → place < length bounds
      → slice_index (map variable_of bounds) place ≡ x → IsEndOfKey (map variable_of bounds) x place before
      → found ++ gaps_below (place + 1) ≡ all → (found ++ gaps_of (kept_at bounds place).bound) ++ gaps_below before ≡ all
  gathered found all place before l key end h =
      append_assoc found (gaps_of (kept_at bounds place).bound) (gaps_below before)
      ∙ ap (λ gs. found ++ gs) (
      ap (λ gs. gaps_of (kept_at bounds place).bound ++ gs) (sym (gaps_up_to place before (omega arith) end))
      ∙ sym (gaps_with x (kept_at bounds place) (reverse (take place bounds)) (sym (key_is place l) ∙ key))
      ∙ sym (below_more place l))
      ∙ h
