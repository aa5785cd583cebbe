-- What the reads of files gave, as the loop over them leaves it.
use Rattle.std.specs.Prelude.{◌≡◌, ℕ, ◌<◌, ◌≤◌, List, map, Option, Some, Ok, Vec}
use Rattle.std.specs.declared.alloc.Global.{Global}
use Rattle.px_io.specs.declared.files.FileFault.TheVariants.{Failed}
use Rattle.px_io.specs.Faults.{RoseOnce}
use Rattle.px_io.specs.Reads.{Given, Reads}
use Rattle.px_loading.specs.Inputs.{AgreeAll, fault_of}

-- reads that gave these bytes
abbrev pub all_read : List (Vec ℕ Global) → List Given
all_read sources = map (λ s. Ok s.items) sources

-- The count of faults, before and after reads that gave this: it never falls, and is one greater where a file couldn't be read,
-- and else as it was.
pub record CountsFailed (before now : ℕ) (given : List Given) : Type 0 where
  pub never_falls : before ≤ now
  pub because : fault_of given ≡ Some Failed → RoseOnce before now
  pub only : before < now → fault_of given ≡ Some Failed

module _ {S : Type 0} (told : S → List ℕ → Option (List ℕ)) (count : S → ℕ) (gives : S → List ℕ → Given → S → Type 0) (old new : S) (names : List (List ℕ)) where
  -- the first of these files were read, each once, in order, and gave this, and what failed was counted
  abbrev pub GivesAll : List Given → Type 0
  GivesAll given = Reads gives old names given new × AgreeAll (told old) names given × CountsFailed (count old) (count new) given
