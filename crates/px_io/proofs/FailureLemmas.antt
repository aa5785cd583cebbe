-- Which calls of the objects in memory fail.
use Rattle.std.proofs.Common.{◌≡◌, Bool, true, false}
use Rattle.std.specs.Prelude.{◌||◌, ◌↔◌, IsTrue}

-- a call that neither cause holds of doesn't fail
pub spared : {P : Type 0} (a b : Bool) → a ≡ false → b ≡ false → (P → ⊥) → P ↔ IsTrue (a || b)
spared true b e f n = absurd cc
spared false true e f n = absurd cc
spared false false e f n = (λ p. absurd (n p), λ t. absurd cc)
