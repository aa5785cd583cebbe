-- What holds of the elements of a list so far.
use Rattle.std.proofs.Common.{◌≡◌, ℕ, ◌+◌, ◌<◌, ◌≤◌, List, sym, subst, length, take, get_or, Option, None, Some, is_some, true, false, refl, inl, inr}
use Rattle.std.specs.List.{Contains}
use Rattle.std.proofs.lemmas.List.{take_more, take_all}
use Rattle.std.proofs.lemmas.List.Elements.{Contains-push_cases}

-- one element more
pub each_more : {A : Type 0} (P : A → Type 0) (xs : List A) (i : ℕ) (d : A) → i < length xs → ((x : A) → Contains (take i xs) x → P x) → P (get_or xs i d) → (x : A) → Contains (take (i + 1) xs) x → P x
each_more P xs i d h all one x m = elim (Contains-push_cases (take i xs) (get_or xs i d) x (subst (λ ys. Contains ys x) (take_more xs i d h) m)) [
  | inl n ↦ all x n
  | inr e ↦ subst P e one
]

-- all of them
pub each_at_end : {A : Type 0} (P : A → Type 0) (xs : List A) (i : ℕ) → length xs ≤ i → ((x : A) → Contains (take i xs) x → P x) → (x : A) → Contains xs x → P x
each_at_end P xs i h all x m = all x (subst (λ ys. Contains ys x) (sym (take_all i xs h)) m)

-- of the places of clauses
pub none_of : (o : Option ℕ) → is_some o ≡ false → o ≡ None
none_of None e = refl
none_of (Some x) e = let f : true ≡ false = e in cc
