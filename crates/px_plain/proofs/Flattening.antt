-- One node after another gets its root as its parent.
use Rattle.std.proofs.Common.{◌≡◌, ◌≢◌, inl, inr, ℕ, ◌+◌, ◌<◌, ◌≤◌, sym, ap, ◌∙◌, arith, below_more}
use Rattle.std.proofs.lemmas.Bool.{cases_eq}

module _ (p q : ℕ → ℕ) (n : ℕ) (low : (v : ℕ) → v < n + 1 → p v ≤ v) (here : q n ≡ p (p n)) (others : (v : ℕ) → v ≢ n → q v ≡ p v) where
  -- a root below n is still one
  kept : (r : ℕ) → r < n → p r ≡ r → q r ≡ r
  kept r h e = others r (omega arith) ∙ e

  pub flat_more : ((v : ℕ) → v < n → p (p v) ≡ p v) → (v : ℕ) → v < n + 1 → q (q v) ≡ q v
  flat_more flat = below_more (λ v. q (q v) ≡ q v) n
      (λ v h.
      let e = others v (omega arith) in
      let l = low v (omega arith) in
      ap q e ∙ kept (p v) (omega arith) (flat v h) ∙ sym e)
      (elim (cases_eq (p n) n) [
        | inl e ↦ ap q (here ∙ ap p e ∙ e)
        | inr e ↦
            let l = low n (omega arith) in
            let b : p n < n = omega arith in
            let m = low (p n) (omega arith) in
            ap q here ∙ kept (p (p n)) (omega arith) (flat (p n) b) ∙ sym here
      ])
