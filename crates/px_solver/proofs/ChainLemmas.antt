-- The places of a home, followed along its chain.
use Rattle.std.proofs.Common.{◌≡◌, ◌≢◌, ℕ, zero, suc, ◌+◌, ◌-◌, ◌<◌, ◌≤◌, ◌++◌, List, [], ◌∷◌, length, get_or, drop, refl, sym, ap, ◌∙◌, arith, append_assoc, add-one}
use Rattle.std.specs.Prelude.{cond}
use Rattle.std.proofs.lemmas.Bool.{eq-eqb, ne_eqb}
use Rattle.std.proofs.Math.Seq.{drop-cons}
use Rattle.px_solver.specs.Tables.{places_from, IsNext}

module _ (h : ℕ) (xs : List ℕ) where
  abbrev from : ℕ → List ℕ
  from k = places_from h k (drop k xs)

  here : (k : ℕ) → k < length xs → get_or xs k 0 ≡ h → from k ≡ k ∷ from (suc k)
  here k l e = ap (places_from h k) (drop-cons xs k 0 l) ∙ ap (λ b. cond b (k ∷ from (suc k)) (from (suc k))) (eq-eqb (get_or xs k 0) h e)

  elsewhere : (k : ℕ) → k < length xs → get_or xs k 0 ≢ h → from k ≡ from (suc k)
  elsewhere k l n = ap (places_from h k) (drop-cons xs k 0 l) ∙ ap (λ b. cond b (k ∷ from (suc k)) (from (suc k))) (ne_eqb (get_or xs k 0) h n)

  skip : (n k j : ℕ) → k + n ≡ j → j ≤ length xs → ((i : ℕ) → k ≤ i → i < j → get_or xs i 0 ≢ h) → from k ≡ from j
  skip zero k j e l none = let q : k ≡ j = omega arith in ap from q
  skip (suc n) k j e l none = elsewhere k (omega arith) (none k (omega arith) (omega arith)) ∙ skip n (suc k) j (omega arith) l (λ i a b. none i (omega arith) b)

  pub to_next : (k j : ℕ) → IsNext xs k h j → from k ≡ from j
  to_next k j n = let low = n.low in skip (j - k) k j (omega arith) n.within n.none

  -- one place more
  pub place_more : (ps : List ℕ) (at j : ℕ) (all : List ℕ) → at < length xs → get_or xs at 0 ≡ h → IsNext xs (at + 1) h j → ps ++ from at ≡ all → (ps ++ at ∷ []) ++ from j ≡ all
  place_more ps at j all l e n q =
      append_assoc ps (at ∷ []) (from j)
      ∙ ap (λ z. ps ++ z) (ap (λ z. at ∷ z) (sym (to_next (at + 1) j n) ∙ ap from (add-one at)) ∙ sym (here at l e))
      ∙ q

  pub at_end : (at : ℕ) → length xs ≤ at → from at ≡ []
  at_end at l = ap (places_from h at) (past xs at l)
    where
      past : (ys : List ℕ) (n : ℕ) → length ys ≤ n → drop n ys ≡ []
      past [] zero l = refl
      past [] (suc n) l = refl
      past (y ∷ ys) zero l = absurd (omega arith)
      past (y ∷ ys) (suc n) l = past ys n (omega arith)
