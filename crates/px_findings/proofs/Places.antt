-- Lists read by places.
use Rattle.std.proofs.Common.{◌≡◌, ℕ, zero, suc, ◌+◌, ◌<◌, List, [], ◌∷◌, ◌++◌, length, get_or, drop, map, Some, refl, sym, ap, ◌∙◌, append_assoc, arith}
use Rattle.std.specs.Prelude.{slice_get}
use Rattle.std.proofs.Math.Seq.{drop-cons}

-- what stands at a place
pub item_at : {A : Type 0} (xs : List A) (i : ℕ) → i < length xs → (x : A) × (slice_get xs i ≡ Some x) × (get_or xs i x ≡ x)
item_at [] i l = let n : ⊥ = omega arith in absurd n
item_at (x ∷ xs) zero l = (x, refl, refl)
item_at (x ∷ xs) (suc i) l = item_at xs i (let m : i < length xs = omega arith in m)

-- one item more of those that a function gives
pub one_more : {A B : Type 0} (f : A → B) (xs : List A) (done new : List B) (i : ℕ) (x : A) → i < length xs → x ≡ get_or xs i x → new ≡ done ++ f x ∷ [] → done ++ map f (drop i xs) ≡ map f xs →
    new ++ map f (drop (i + 1) xs) ≡ map f xs
one_more f xs done new i x below at pushed h =
    let rest = map f (drop (i + 1) xs) in
    let next : i + 1 ≡ suc i = omega arith in
    ap (λ z. z ++ rest) pushed ∙ append_assoc done (f x ∷ []) rest ∙ ap (λ y. done ++ f y ∷ rest) at
    ∙ ap (λ n. done ++ f (get_or xs i x) ∷ map f (drop n xs)) next ∙ ap (λ z. done ++ map f z) (sym (drop-cons xs i x below)) ∙ h
