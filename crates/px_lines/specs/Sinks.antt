-- What becomes of a sink.
use Rattle.std.specs.Prelude.{◌⊎◌, ℕ, List, Option}
use Rattle.std.specs.Io.KnownBytes.{Appends}
use Rattle.px_io.specs.Faults.{RoseOnce}
use Rattle.px_io.specs.Told.{AppendsPrefix}

-- a sink before and after: the bytes that it is told to have, and its count of faults
pub record Change : Type 0 where
  pub old : Option (List ℕ)
  pub new : Option (List ℕ)
  pub before : ℕ
  pub now : ℕ

abbrev pub change : {K : Type 0} → (K → Option (List ℕ)) → (K → ℕ) → K → K → Change
change told count old new = record { old = told old; new = told new; before = count old; now = count new }

-- its bytes have grown by these
abbrev pub Grew : Change → List ℕ → Type 0
Grew c bytes = Appends c.old c.new bytes

-- one write failed, and its bytes have grown by a prefix of these
abbrev pub WasCut : Change → List ℕ → Type 0
WasCut c bytes = RoseOnce c.before c.now × AppendsPrefix c.old c.new bytes

-- the one or the other
abbrev pub Tells : Change → List ℕ → Type 0
Tells c bytes = Grew c bytes ⊎ WasCut c bytes
