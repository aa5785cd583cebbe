use Rattle.std.proofs.Common.{◌≡◌, ℕ, take, Bool}
use Rattle.px_parity.specs.Bits.{parity}
use Rattle.px_parity.specs.Equations.{AreEven, IsCleared}
use Rattle.px_parity.proofs.elimination.reduce.Given as goal

abbrev pub invariant-loop-pivot : goal.invariant-loop-pivot
invariant-loop-pivot l = record {
  cleared : IsCleared l.row (take l.pivot-index l.pivots);
  same : (w : ℕ → Bool) → AreEven w l.pivots → parity w l.row ≡ parity w l.initial.row;
}
