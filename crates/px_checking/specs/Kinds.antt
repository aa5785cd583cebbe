-- The kinds of the domains that a run is handed, their order, and where each stood.
use Rattle.std.specs.Prelude.{◌≡◌, ℕ, ◌≤◌, nat_eq, not, false, List, [], ◌∷◌, if◌then◌else◌, ⊤}
use Rattle.std.specs.List.{AllByRecursion, prefix_len}
use Rattle.std.specs.List.Sorted.{IsPermutation, IsNonDecreasing}
use Rattle.px_checking.specs.declared.kinds.Places.{Places}

-- no two are the same
abbrev pub AreDifferent : List ℕ → Type 0
AreDifferent [] = ⊤
AreDifferent (k ∷ kinds) = AllByRecursion (λ j. nat_eq k j ≡ false) kinds × AreDifferent kinds

-- each is 1, 2 or 3, and no two are the same
abbrev pub AreOwnKinds : List ℕ → Type 0
AreOwnKinds kinds = AllByRecursion (λ k. (1 ≤ k) × (k ≤ 3)) kinds × AreDifferent kinds

-- the second list has the kinds of the first, rising
abbrev pub IsRisingOf : List ℕ → List ℕ → Type 0
IsRisingOf given kinds = IsPermutation given kinds × IsNonDecreasing kinds

-- the place of the first domain of a kind, or how many domains there are, where none is of it
abbrev pub place_of : List ℕ → ℕ → ℕ
place_of kinds kind = prefix_len (λ k. not (nat_eq k kind)) kinds

-- these are the places of the three kinds
pub record ArePlaces (kinds : List ℕ) (places : Places) : Type 0 where
  pub one : places.one ≡ place_of kinds 1
  pub two : places.two ≡ place_of kinds 2
  pub three : places.three ≡ place_of kinds 3

-- the place of the domain of a kind
abbrev pub rank_of : Places → ℕ → ℕ
rank_of places kind = if nat_eq kind 1 then places.one else (if nat_eq kind 2 then places.two else places.three)
