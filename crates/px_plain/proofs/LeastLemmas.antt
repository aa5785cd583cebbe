-- What isn't in a rising list.
use Rattle.std.proofs.Common.{◌≡◌, ◌≢◌, ◌≤◌, ◌<◌, ◌+◌, ◌++◌, ◌⊎◌, inl, inr, ℕ, List, [], ◌∷◌, length, length-append, get_or, ap, arith, ◌∙◌}
use Rattle.std.proofs.lemmas.List.{get_or_push}
use Rattle.std.proofs.Math.ListN.{get_or-append}
use Rattle.std.specs.Prelude.{Contains, cond, nat_eq}
use Rattle.std.proofs.lemmas.Bool.{cases_eq, cases_lt, eq-eqb, ne_eqb}
use Rattle.std.proofs.lemmas.List.{get_or_default}

pub next_cases : (x least r : ℕ) → r ≡ cond (nat_eq x least) (least + 1) least → ((x ≡ least) × (r ≡ least + 1)) ⊎ ((x ≢ least) × (r ≡ least))
next_cases x least r h = elim (cases_eq x least) [
  | inl e ↦ inl (e, h ∙ rw (eq-eqb x least e))
  | inr n ↦ inr (n, h ∙ rw (ne_eqb x least n))
]

pub above_all : (xs : List ℕ) (n : ℕ) → ((i : ℕ) → i < length xs → get_or xs i 0 < n) → ¬ Contains xs n
above_all xs n h (k, b, e) = let low = h k b in let same = get_or_default xs k n 0 b in absurd (omega arith)

pub in_a_gap : (xs : List ℕ) (m n : ℕ) → ((i : ℕ) → i < m → get_or xs i 0 < n) → ((i j : ℕ) → i ≤ j → j < length xs → get_or xs i 0 ≤ get_or xs j 0) → n < get_or xs m 0 → ¬ Contains xs n
in_a_gap xs m n h rising above (k, b, e) =
    let same = get_or_default xs k n 0 b in
    elim (cases_lt k m) [
      | inl w ↦ let low = h k w in absurd (omega arith)
      | inr w ↦ let high = rising m k w b in absurd (omega arith)
    ]

-- what holds of each element, and of one more after them
pub order_more : (f : ℕ → ℕ) (xs : List ℕ) (x : ℕ) → ((i : ℕ) → i < length xs → get_or xs i 0 ≡ f i) → x ≡ f (length xs) → (i : ℕ) → i < length (xs ++ x ∷ []) → get_or (xs ++ x ∷ []) i 0 ≡ f i
order_more f xs x h e i l =
    let n = length-append xs (x ∷ []) in
    elim (cases_lt i (length xs)) [
      | inl w ↦ get_or-append xs (x ∷ []) 0 i w ∙ h i w
      | inr w ↦ let same : length xs ≡ i = omega arith in get_or_push xs x 0 i same ∙ e ∙ ap f same
    ]
