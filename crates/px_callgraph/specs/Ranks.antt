-- Ranks of procedures: what a procedure calls outside its cycles has a lower rank.
use Rattle.std.specs.Prelude.{◌≡◌, ℕ, ◌<◌, ◌≤◌, Option}
use Rattle.px_core.specs.BodyTree.{BodyTree}
use Rattle.px_callgraph.specs.Callees.{IsCallee, AreTogether}

-- f calls g, which is kept, and outside its recursion component
pub record CallsBelow (bodies : ℕ → Option BodyTree) (kept f g : ℕ) : Type 0 where
  pub callee : IsCallee bodies f g
  pub is_kept : g < kept
  pub apart : ¬ AreTogether bodies f g

-- the rank of a kept procedure is the least number above the ranks of all that it calls below
pub record AreRanks (bodies : ℕ → Option BodyTree) (kept : ℕ) (rank : ℕ → ℕ) : Type 0 where
  pub above : (f g : ℕ) → f < kept → CallsBelow bodies kept f g → rank g < rank f
  pub least : (f n : ℕ) → f < kept → ((g : ℕ) → CallsBelow bodies kept f g → rank g < n) → rank f ≤ n

-- n is the rank of f
abbrev pub IsRank : (ℕ → Option BodyTree) → ℕ → ℕ → ℕ → Type 0
IsRank bodies kept f n = (rank : ℕ → ℕ) × AreRanks bodies kept rank × (rank f ≡ n)

-- A kept procedure has one rank at most.
abbrev pub RanksAreUnique : Type 0
RanksAreUnique = (bodies : ℕ → Option BodyTree) (kept f m n : ℕ) → f < kept → IsRank bodies kept f m → IsRank bodies kept f n → m ≡ n

-- Ranks rise from what is called to the caller, outside cycles.
abbrev pub RanksRise : Type 0
RanksRise = (bodies : ℕ → Option BodyTree) (kept f g m n : ℕ) → f < kept → g < kept → IsCallee bodies f g → ¬ AreTogether bodies f g
    → IsRank bodies kept g m → IsRank bodies kept f n → m < n
