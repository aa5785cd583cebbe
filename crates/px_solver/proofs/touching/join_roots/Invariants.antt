use Rattle.std.proofs.Common.{◌≡◌, ℕ, ◌<◌, ◌%◌, ◌^◌, get_or}
use Rattle.px_plain.specs.Forest.{IsForest, Keeps}
use Rattle.px_solver.specs.Tables.{AreOne}
use Rattle.px_solver.proofs.touching.join_roots.Given as goal

abbrev pub invariant-loop-i : goal.invariant-loop-i
invariant-loop-i l = record {
  forest : IsForest l.components;
  bare : Keeps (λ v. 0) l.components;
  old : (val : ℕ → ℕ) → Keeps val l.components → Keeps val l.initial.components;
  one : (val : ℕ → ℕ) → Keeps val l.components → (j : ℕ) → j < l.i → val (get_or l.nodes j 0) % 2 ^ 32 ≡ val (get_or l.nodes 0 0) % 2 ^ 32;
  new : (val : ℕ → ℕ) → Keeps val l.initial.components → AreOne val l.nodes → Keeps val l.components;
}
