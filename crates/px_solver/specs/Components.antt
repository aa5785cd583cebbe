-- Components: representatives that conjuncts touch together.
use Rattle.std.specs.Prelude.{◌≡◌, ℕ, ◌<◌, ◌⊎◌, Bool, List, [], ◌∷◌, All, Any, Contains, length, slice_index}
use Rattle.px_terms.specs.Conjuncts.{IsPlain}
use Rattle.px_terms.specs.declared.conjuncts.Conj.{Conj}
use Rattle.px_plain.specs.Ties.{IsRepresentative, Touches}

-- each conjunct touches representatives of the set alone, or none of them
abbrev pub IsClosed : List Conj → (ℕ → Bool) → Type 0
IsClosed conjuncts set = All (λ c. (r s : ℕ) → Touches conjuncts r c → Touches conjuncts s c → set r ≡ set s) conjuncts

-- no closed set holds one of r and s without the other: so it is where touching leads from one to the other
abbrev pub ShareComponent : List Conj → ℕ → ℕ → Type 0
ShareComponent conjuncts r s = (set : ℕ → Bool) → IsClosed conjuncts set → set r ≡ set s

-- the conjunct touches a representative of the component of r
abbrev pub IsOfComponent : List Conj → ℕ → Conj → Type 0
IsOfComponent conjuncts r c = (s : ℕ) × Touches conjuncts s c × ShareComponent conjuncts r s

-- the representatives of the component of r, in order
pub record AreMembers (conjuncts : List Conj) (r : ℕ) (members : List ℕ) : Type 0 where
  pub rising : (i j : ℕ) → i < j → j < length members → slice_index members i < slice_index members j
  pub each : All (λ s. IsRepresentative conjuncts s × ShareComponent conjuncts r s) members
  pub all : (s : ℕ) → IsRepresentative conjuncts s → ShareComponent conjuncts r s → Contains members s

-- the second list has the conjuncts of the first of which P holds, in order
abbrev pub Selects : (Conj → Type 0) → List Conj → List Conj → Type 0
Selects P [] us = us ≡ []
Selects P (c ∷ cs) us = (P c × ((vs : List Conj) × (us ≡ c ∷ vs) × Selects P cs vs)) ⊎ ((¬ P c) × Selects P cs us)

-- the component of r has a conjunct that isn't plain
abbrev pub IsHard : List Conj → ℕ → Type 0
IsHard conjuncts r = Any (λ c. (¬ IsPlain c) × IsOfComponent conjuncts r c) conjuncts

-- r is the least representative of such a component
pub record IsHardComponent (conjuncts : List Conj) (r : ℕ) : Type 0 where
  pub represents : IsRepresentative conjuncts r
  pub least : (s : ℕ) → s < r → IsRepresentative conjuncts s → ¬ ShareComponent conjuncts r s
  pub hard : IsHard conjuncts r
