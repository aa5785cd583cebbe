-- What the definitions of entries give.
use Rattle.std.specs.Prelude.{◌≡◌, ◌↔◌, ℕ, ◌<◌, true, List, ◌++◌, length, All, flat_map, IsTrue}
use Rattle.px_terms.specs.Variables.{mentioned}
use Rattle.px_terms.specs.Conjuncts.{IsWellSorted}
use Rattle.px_terms.specs.declared.types.BlockType.{BlockType}
use Rattle.px_terms.specs.declared.variables.VarInfo.{VarInfo}
use Rattle.px_terms.specs.declared.conjuncts.Conj.{Conj}
use Rattle.px_entry.specs.declared.entries.Entry.{Entry}
use Rattle.px_entry.specs.Sorts.{is_well_sorted}
use Rattle.px_entry.specs.Equality.{same_conjunct}
use Rattle.px_entry.specs.Regular.{is_regular, used_variables, cells_of}

-- the tests of conjuncts answer what they test
pub record TestsDecide : Type 0 where
  pub sorts : (vars : List VarInfo) (c : Conj) → is_well_sorted vars c ≡ true ↔ IsWellSorted vars c
  pub equality : (c d : Conj) → same_conjunct c d ≡ true ↔ c ≡ d

-- a regular entry's variables are in its list
abbrev pub AreScoped : Entry → Type 0
AreScoped x = All (λ v. v < length x.vars) (flat_map mentioned x.pure ++ used_variables x ++ cells_of x.pre ++ cells_of x.post)

abbrev pub RegularEntriesAreScoped : Type 0
RegularEntriesAreScoped = (types : List BlockType) (n : ℕ) (x : Entry) → IsTrue (is_regular types n x) → AreScoped x
