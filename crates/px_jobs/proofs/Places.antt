-- Lists in which one place is written.
use Rattle.std.proofs.Common.{◌≡◌, ◌≢◌, ℕ, zero, suc, ◌<◌, List, [], ◌∷◌, length, set, Some, refl, ap, arith}
use Rattle.std.specs.Prelude.{slice_get}

pub set_same : {A : Type 0} (xs : List A) (i : ℕ) (x : A) → i < length xs → slice_get (set xs i x) i ≡ Some x
set_same [] i x l = let n : ⊥ = omega arith in absurd n
set_same (y ∷ xs) zero x l = refl
set_same (y ∷ xs) (suc i) x l = set_same xs i x (let m : i < length xs = omega arith in m)

pub set_other : {A : Type 0} (xs : List A) (i j : ℕ) (x : A) → j ≢ i → slice_get (set xs i x) j ≡ slice_get xs j
set_other [] i j x d = refl
set_other (y ∷ xs) zero zero x d = absurd (d refl)
set_other (y ∷ xs) zero (suc j) x d = refl
set_other (y ∷ xs) (suc i) zero x d = refl
set_other (y ∷ xs) (suc i) (suc j) x d = set_other xs i j x (λ e. d (ap suc e))
