-- Ranks are unique.
use Rattle.std.proofs.Common.{◌≡◌, ℕ, zero, suc, ◌<◌, ◌≤◌, Option, arith}
use Rattle.px_core.specs.BodyTree.{BodyTree}
use Rattle.px_callgraph.specs.Ranks.{CallsBelow, AreRanks}

module _ (bodies : ℕ → Option BodyTree) (kept : ℕ) (a b : ℕ → ℕ) (h : AreRanks bodies kept a) (k : AreRanks bodies kept b) where
  same_below : (n f : ℕ) → f < kept → a f < n → a f ≡ b f
  same_below zero f l m = absurd (omega arith)
  same_below (suc n) f l m =
      let same : (g : ℕ) → CallsBelow bodies kept f g → a g ≡ b g = (λ g c. let r = h.above f g l c in same_below n g c.is_kept (omega arith)) in
      let p : b f ≤ a f = k.least f (a f) l (λ g c. let r = h.above f g l c in let s = same g c in omega arith) in
      let q : a f ≤ b f = h.least f (b f) l (λ g c. let r = k.above f g l c in let s = same g c in omega arith) in
      omega arith

  pub same_ranks : (f : ℕ) → f < kept → a f ≡ b f
  same_ranks f l = same_below (suc (a f)) f l (omega arith)
