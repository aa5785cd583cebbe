-- What a domain of parity holds: the pivots of the equations, and a mark for each conjunct.
use Rattle.std.specs.Prelude.{◌≡◌, ◌↔◌, ℕ, ◌-◌, List, [], ◌∷◌, All, length, take, Option, Some, None, slice_get}
use Rattle.px_terms.specs.Rules.{HoldsModuloTwo, ParityRulesOut}
use Rattle.px_terms.specs.declared.conjuncts.Conj.{Conj}
use Rattle.px_parity.specs.declared.elimination.Pivot.{Pivot}
use Rattle.px_parity.specs.declared.elimination.Mark.{Mark}
use Rattle.px_parity.specs.declared.elimination.Mark.TheVariants.{Implied, Added, Refuted}
use Rattle.px_parity.specs.declared.parity.Parity.{Parity}
use Rattle.px_parity.specs.Equations.{columns, AreEven, IsTriangular, but_last}

-- the rows are triangular, and hold where the conjuncts do modulo 2
pub record Represents (ps : List Pivot) (cs : List Conj) : Type 0 where
  pub triangular : IsTriangular ps
  pub same : (v : ℕ → ℕ) → AreEven (columns v) ps ↔ All (HoldsModuloTwo v) cs

-- what the last conjunct's mark says of all: that the rule rules them out, or else that the rows represent them
abbrev pub MarkSays : Option Mark → List Pivot → List Conj → Type 0
MarkSays None ps cs = ⊥
MarkSays (Some Implied) ps cs = Represents ps cs
MarkSays (Some Added) ps cs = Represents ps cs
MarkSays (Some Refuted) ps cs = ParityRulesOut cs

-- the pivots before the conjunct of this mark was pushed
abbrev pub pivots_before : Option Mark → List Pivot → List Pivot
pivots_before None ps = ps
pivots_before (Some Implied) ps = ps
pivots_before (Some Added) ps = but_last ps
pivots_before (Some Refuted) ps = ps

abbrev pub last_mark : List Mark → Option Mark
last_mark ms = slice_get ms (length ms - 1)

-- these pivots and marks come of pushing these conjuncts, the last one first
abbrev pub IsHeld : List Pivot → List Mark → List Conj → Type 0
IsHeld ps ms [] = (ps ≡ []) × (ms ≡ [])
IsHeld ps ms (c ∷ cs) = MarkSays (last_mark ms) ps (c ∷ cs) × IsHeld (pivots_before (last_mark ms) ps) (take (length ms - 1) ms) cs

-- the domain holds these conjuncts, the last one first
abbrev pub Holds : Parity → List Conj → Type 0
Holds s cs = IsHeld s.pivots.items s.marks.items cs
