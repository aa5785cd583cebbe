-- Blocks all of whose cells are unwritten.
use Rattle.std.proofs.Common.{◌≡◌, List, [], ◌∷◌, map, length, refl, ap}
use Rattle.std.specs.Prelude.{replicate}

-- as many of one thing as there are items
pub all_same : {A B : Type 0} (xs : List A) (b : B) → replicate (length xs) b ≡ map (λ _. b) xs
all_same [] b = refl
all_same (x ∷ xs) b = ap (λ z. b ∷ z) (all_same xs b)
