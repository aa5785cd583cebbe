-- A list of equal items, read by places.
use Rattle.std.proofs.Common.{◌≡◌, ℕ, zero, suc, ◌<◌, replicate, Some, refl, arith}
use Rattle.std.specs.Prelude.{slice_get}

pub replicated : {A : Type 0} (n i : ℕ) (x : A) → i < n → slice_get (replicate n x) i ≡ Some x
replicated zero i x l = let m : ⊥ = omega arith in absurd m
replicated (suc n) zero x l = refl
replicated (suc n) (suc i) x l = replicated n i x (let m : i < n = omega arith in m)
